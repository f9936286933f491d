-- What accepted calls owe their source. Assumes nothing.
use Rattle.std.proofs.Common.{subst}
use Rattle.words.proofs.LittleLaws.{small_list}
use Rattle.regions.proofs.Promises.{near_source, own_bytes}
use Rattle.depth_texture.proofs.Refusals.{accepts}
use Rattle.depth_texture.specs.Planes.{unpacked_stencil}
use Rattle.depth_texture.specs.Promises.{Restores, NearestCodes}
use Rattle.depth_texture.proofs.RoundTrip.{stencil_small, unpacked_accepted, packed_accepted, nearest_packed, round_trip}
use Rattle.std.specs.Prelude.{length}
use Rattle.viewer.specs.Accuracy.{Accuracy}

pub accuracy : Accuracy
accuracy = record {
  near = λ set src dst s d r small. near_source set src small dst s d r;
  own = λ set src dst s d r. own_bytes set src dst s d r;
  nearest = λ f l depth stencil packed pitch small e.
      subst (λ p. NearestCodes f l depth p pitch) (packed_accepted f l packed pitch depth stencil e)
      (λ x y xl yl. nearest_packed f l depth stencil packed pitch (accepts f l (length packed) pitch (length depth) (length stencil) e) x y xl yl (stencil_small f stencil small _));
  restores = λ f l packed pitch depth stencil small e k.
      let u = unpacked_accepted f l packed pitch depth stencil e in
      subst (λ D. Restores f l packed pitch D (unpacked_stencil f l packed pitch depth stencil)) u.0
      (subst (Restores f l packed pitch _) u.1
      (round_trip f l packed pitch depth stencil (accepts f l (length packed) pitch (length depth) (length stencil) e) k (small_list packed (λ i h. small i))));
}
