-- `formats::bytes_per_texel` meets its contract: the table's rule is a test at each of its entries, and above it no code has lanes. Assumes nothing.
use Rattle.std.proofs.Common.{Bool, List, [], ◌∷◌, ℕ, arith, eqb, eqb→eq, get_or}
use Rattle.words.proofs.ComputedLaws.{entry_at}
use Rattle.formats.specs.Table.{bytes_of, parts_of}
use Rattle.formats.proofs.bytes_per_texel.Goals as goal

entries : List ℕ
entries = 0 ∷ 0 ∷ 0 ∷ 0 ∷ 0 ∷ 0 ∷ 0 ∷ 0 ∷ 0 ∷ 0 ∷ 0 ∷ 0 ∷ 0 ∷ 0 ∷ 0 ∷ 0 ∷ 0 ∷ 0 ∷ 0 ∷ 0 ∷ 3 ∷ 4 ∷ 4 ∷ 2 ∷ 2 ∷ 2 ∷ 2 ∷ 0 ∷ 1 ∷ 0 ∷ 0 ∷ 4 ∷ 4 ∷ 4 ∷ 4 ∷ 4 ∷ 8 ∷ 0 ∷ 0 ∷ 0 ∷ 0 ∷ 0 ∷ 0 ∷ 0 ∷ 0 ∷ 0 ∷ 0 ∷ 0 ∷ 0 ∷ 0 ∷ 1 ∷ 2 ∷ 0 ∷ 0 ∷ 0 ∷ 0 ∷ 0 ∷ 0 ∷ 0 ∷ 0 ∷ 2 ∷ 0 ∷ 0 ∷ 4 ∷ 4 ∷ 0 ∷ 0 ∷ 0 ∷ 0 ∷ 0 ∷ 0 ∷ 0 ∷ 0 ∷ 0 ∷ 0 ∷ 4 ∷ 0 ∷ 4 ∷ 0 ∷ 0 ∷ 2 ∷ 2 ∷ 0 ∷ 0 ∷ 0 ∷ 0 ∷ 0 ∷ 0 ∷ 0 ∷ 0 ∷ 0 ∷ 0 ∷ 0 ∷ 0 ∷ 0 ∷ 0 ∷ 0 ∷ 0 ∷ 0 ∷ 0 ∷ 0 ∷ 0 ∷ 0 ∷ 0 ∷ 0 ∷ 0 ∷ 0 ∷ 0 ∷ 0 ∷ 0 ∷ 8 ∷ 2 ∷ 4 ∷ 8 ∷ 4 ∷ 8 ∷ 16 ∷ []

right : ℕ → ℕ → Bool
right k x = eqb x (bytes_of k)

pub returns-then-d3d_format-le-D3DFMT_A32B32G32R32F : goal.returns-then-d3d_format-le-D3DFMT_A32B32G32R32F
unfolding bytes_of entries parts_of right
returns-then-d3d_format-le-D3DFMT_A32B32G32R32F c =
    let f = c.args.d3d_format in
    eqb→eq (get_or entries f 0) (bytes_of f) (entry_at right entries tt f (omega arith))
