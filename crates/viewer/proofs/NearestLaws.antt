-- A nearest number is the one that is computed. Assumes nothing.
use Rattle.std.specs.Prelude.{◌<◌}
use Rattle.std.proofs.Common.{sym, subst, arith}
use Rattle.channels.specs.Nearest.{Nearest, NearestUp, NearestEven, rounded}
use Rattle.channels.proofs.Nearest.{one_nearest, rounded_up, rounded_odd}
use Rattle.channels.proofs.Even.{closest_even, only_closest}
use Rattle.convert.specs.Half.{HalfOf}
use Rattle.convert.proofs.HalfLaws.{half_of_is, half_is}
use Rattle.depth_texture.specs.Depth.{CodeFor}
use Rattle.depth_texture.proofs.Restoration.{code_for_is, one_code}
use Rattle.viewer.specs.Nearest.{OneNearest}

pub nearest_is_one : OneNearest
nearest_is_one = record {
  up = λ n d q D. (
    λ N. one_nearest (λ j q. j < q) n d q (rounded n d) (λ a b. omega (arith, a, b)) N (rounded_up n d D),
    λ e. subst (NearestUp n d) (sym e) (rounded_up n d D),
  );
  odd = λ n d q o. (
    λ N. one_nearest (λ j q. ⊥) n d q (rounded n d) (λ a b. a) N (rounded_odd n d o),
    λ e. subst (Nearest n d) (sym e) (rounded_odd n d o),
  );
  even = λ n d q D. (only_closest n d q D, λ e. subst (NearestEven n d) (sym e) (closest_even n d D));
  depth = λ max x k. (one_code max x k, λ e. subst (CodeFor max x) (sym e) (code_for_is max x));
  binary16 = λ bits k. (half_is bits k, λ e. subst (HalfOf bits) (sym e) (half_of_is bits));
}
