-- `yuv_rows::write_pairs` meets its contract: block by block, with every offset carried. Assumes nothing.
use Rattle.std.proofs.Common.{◌≡◌, ap, ◌∙◌, subst, List, ℕ, ◌+◌, ◌*◌, ◌/◌, ◌-◌, ◌≤◌, ◌<◌, min, take, drop, add-mul, mul-le-mul_right, arith, length, length-take-le, length-append, length-drop}
use Rattle.formats.specs.Table.{bytes_of}
use Rattle.formats.specs.Formats.{rgb_code}
use Rattle.pixel_convert.specs.Places.{PlacesIn}
use Rattle.pixel_convert.proofs.PlacesLaws.{places_on, has_after}
use Rattle.pixel_convert.proofs.PairWordsLaws.{WritesPairs, written_more}
use Rattle.pixel_convert.proofs.yuv_rows.write_pairs.Goals as goal

-- a block has no more pairs than are left, and two words for each
record Part (block : List ℕ) (pairs done n : ℕ) : Type 0 where
  some : 0 < n
  few : n ≤ 32
  within : done + n ≤ pairs
  words : length (take (2 * n) block) ≡ 2 * n

part : {block : List ℕ} (pairs done : ℕ) {n : ℕ} → n ≡ min (pairs - done) 32 → done < pairs → length block ≡ 64 → Part block pairs done n
part {block} pairs done {n} e h l = record { some = omega (arith, e, h); few = omega (arith, e); within = omega (arith, e, h); words = length-take-le (2 * n) block (omega (arith, e, l)) }

pub read_pairs-requires : goal.read_pairs-requires
read_pairs-requires c =
    let g = c.args in
    let l = c.loop-done in
    let n = c.min-n.result in
    let p = part g.pairs l.done c.min-n.ensures c.loop-done-test.true l.invariant.3 in
    let half : n ≡ length (take (2 * n) l.block) / 2 = omega (arith, p.words) in
    (omega (arith, p.few, half), subst (λ k. PlacesIn (length g.src.now) l.at k) half (places_on (length g.src.now) g.first l.at g.pairs l.done n l.invariant.0.places c.requires.0 p.within))

pub write_texels-to-requires : goal.write_texels-to-requires
write_texels-to-requires c =
    let g = c.args in
    let l = c.loop-done in
    let n = c.min-n.result in
    let size = bytes_of (rgb_code g.dst_format) in
    let p = part g.pairs l.done c.min-n.ensures c.loop-done-test.true l.invariant.3 in
    let words : length c.read_pairs.new.block * size ≡ 2 * n * size = ap (λ k. k * size) (c.read_pairs.auto.block ∙ p.words) in
    let less : (2 * l.done + 2 * n) * size ≤ 2 * g.pairs * size = mul-le-mul_right size (omega (arith, p.within)) in
    omega (arith, c.requires.1, l.invariant.0.carried, l.invariant.1, less, words, add-mul (2 * l.done) (2 * n) size)

pub after-at-requires : goal.after-at-requires
after-at-requires c =
    let g = c.args in
    let l = c.loop-done in
    let n = c.min-n.result in
    let p = part g.pairs l.done c.min-n.ensures c.loop-done-test.true l.invariant.3 in
    has_after (length g.src.now) l.at n (places_on (length g.src.now) g.first l.at g.pairs l.done n l.invariant.0.places c.requires.0 p.within) p.some p.few (omega arith)

pub loop-done-preserved : goal.loop-done-preserved
loop-done-preserved c =
    let g = c.args in
    let l = c.loop-done in
    let n = c.min-n.result in
    let p = part g.pairs l.done c.min-n.ensures c.loop-done-test.true l.invariant.3 in
    let full : l.done + n ≡ l.done + 32 = omega (arith, c.min-n.ensures) in (
      subst (λ k. WritesPairs g.lines.now g.src.now g.first (rgb_code g.dst_format) g.first_to g.dst.now k c.after-at.result c.write_texels-to.new.dst c.write_texels-to.result) full
          (written_more n l.invariant.0 p.words c.read_pairs.ensures (c.read_pairs.auto.block ∙ p.words) c.write_texels-to.ensures c.after-at.ensures),
      c.write_texels-to.auto.dst ∙ l.invariant.1,
      omega arith,
      length-append c.read_pairs.new.block (drop (2 * n) l.block) ∙ omega (arith, c.read_pairs.auto.block, length-drop (2 * n) l.block, l.invariant.3, p.words, p.few),
    )

pub returns-2 : goal.returns-2
returns-2 c =
    let g = c.args in
    let l = c.loop-done in
    let n = c.min-n.result in
    let p = part g.pairs l.done c.min-n.ensures c.loop-done-test.true l.invariant.3 in
    let all : l.done + n ≡ g.pairs = omega (arith, c.min-n.ensures) in
    (subst (λ k. WritesPairs g.lines.now g.src.now g.first (rgb_code g.dst_format) g.first_to g.dst.now k c.after-at.result c.write_texels-to.new.dst c.write_texels-to.result) all
    (written_more n l.invariant.0 p.words c.read_pairs.ensures (c.read_pairs.auto.block ∙ p.words) c.write_texels-to.ensures c.after-at.ensures)).bytes
