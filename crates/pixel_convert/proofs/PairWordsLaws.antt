-- Laws on what specs/PairWords defines. Assumes nothing.
use Rattle.std.specs.Prelude.{◌≡◌, true, List, length, get_or, ℕ, ◌+◌, ◌*◌, ◌/◌, ◌%◌, ◌≤◌, ◌<◌, false, pos, ◌+ℤ◌}
use Rattle.std.proofs.Common.{sym, ap, ap₂, subst, ◌∙◌, ⊎_elim, add_assoc, add-mul, zero-mul, one-mul, arith}
use Rattle.std.proofs.Math.Seq.{sets}
use Rattle.words.proofs.IntegersLaws.{clamp_byte, up_pos}
use Rattle.words.proofs.TestsLaws.{lt_or_eq}
use Rattle.words.specs.Iterate.{iterate}
use Rattle.words.proofs.IterateLaws.{iterate_zero, iterate_add, iterate_same}
use Rattle.words.specs.Integers.{up}
use Rattle.formats.specs.Codes.{A8R8G8B8}
use Rattle.formats.specs.Lanes.{Channel, red, green, blue, alpha, luminance, depth, stencil, padding}
use Rattle.formats.specs.Table.{bytes_of}
use Rattle.formats.specs.Classes.{is_yuv, is_packed_yuv, is_planar_yuv}
use Rattle.channels.proofs.LuminanceLaws.{luminance_byte}
use Rattle.texels.specs.Texels.{decoded_of, encoded_bytes, byte_of}
use Rattle.texels.proofs.RestoredLaws.{word_keeps}
use Rattle.texels.specs.Blocks.{word_written, word_of, WordsWritten}
use Rattle.places.specs.Places.{place_of}
use Rattle.places.proofs.InsideLaws.{along}
use Rattle.stretch_rect.specs.declared.sets.YuvSet.{YuvSet}
use Rattle.stretch_rect.specs.declared.Rgb.{Rgb}
use Rattle.stretch_rect.specs.Yuv.{rgb_of}
use Rattle.stretch_rect.specs.Parts.{joined}
use Rattle.regions.specs.declared.reply.ConvertRegion.{ConvertRegion}
use Rattle.regions.specs.Regions.{to_at, opaque_of, texel_at, source_texel, written}
use Rattle.regions.specs.Rows.{RowFits}
use Rattle.pixel_convert.specs.declared.lines.Lines.{Lines}
use Rattle.pixel_convert.specs.Pairs.{lines_of, rgb_on}
use Rattle.pixel_convert.proofs.PairsLaws.{set_lines}
use Rattle.pixel_convert.specs.declared.pairs.PairPlaces.{PairPlaces}
use Rattle.pixel_convert.specs.Gathering.{luma_step, luma_gap, chroma_step, PairsIn, word_on, ReadsPairs}
use Rattle.pixel_convert.specs.Places.{format_of, luma_at, u_at, v_at, PlacesIn, After}
use Rattle.pixel_convert.proofs.PlacesLaws.{after_none, after_more, by_places, by_numbers}
use Rattle.pixel_convert.specs.Runs.{run_written}
use Rattle.pixel_convert.proofs.RunsLaws.{run_room}
use Rattle.pixel_convert.specs.Samples.{macro_start, luma_on, u_on, v_on, PairAt}
use Rattle.pixel_convert.proofs.SamplesLaws.{macro_is, samples_in, texel_samples, first_on, second_on, u_by_half, v_by_half}
use Rattle.pixel_convert.specs.PairWords.{run_word, run_from}

module _ (l : Lines) (src : List ℕ) (f luma u v done n : ℕ) (was block : List ℕ) (read : ReadsPairs l src f (luma + done * luma_step f) (u + done * chroma_step f) (v + done * chroma_step f) n was block) where
  -- ---- a block of n pairs, after done of them
  -- so many steps and so many more
  steps : (at step k : ℕ) → at + done * step + k * step ≡ at + (done + k) * step
  steps at step k = omega (arith, add-mul done k step)

  first_word : (k : ℕ) → k < n → get_or block (2 * k) 0 ≡ run_word l src f luma u v (2 * done + 2 * k)
  unfolding run_word
  first_word k h =
      let half : (2 * done + 2 * k) / 2 ≡ done + k = omega arith in
      let odd : (2 * done + 2 * k) % 2 ≡ 0 = omega arith in
      let place : luma + done * luma_step f + k * luma_step f ≡ luma + 0 * luma_gap f + (done + k) * luma_step f = omega (arith, add-mul done k (luma_step f), zero-mul (luma_gap f)) in
      read.firsts k h
      ∙ rw (odd, half) (λ i. word_on l (get_or src (place i) 0) (get_or src (steps u (chroma_step f) k i) 0) (get_or src (steps v (chroma_step f) k i) 0))

  second_word : (k : ℕ) → k < n → get_or block (2 * k + 1) 0 ≡ run_word l src f luma u v (2 * done + (2 * k + 1))
  unfolding run_word
  second_word k h =
      let half : (2 * done + (2 * k + 1)) / 2 ≡ done + k = omega arith in
      let odd : (2 * done + (2 * k + 1)) % 2 ≡ 1 = omega arith in
      let place : luma + done * luma_step f + luma_gap f + k * luma_step f ≡ luma + 1 * luma_gap f + (done + k) * luma_step f = omega (arith, add-mul done k (luma_step f), one-mul (luma_gap f)) in
      read.seconds k h
      ∙ rw (odd, half) (λ i. word_on l (get_or src (place i) 0) (get_or src (steps u (chroma_step f) k i) 0) (get_or src (steps v (chroma_step f) k i) 0))

  -- each of its words
  pub block_word : (j : ℕ) → j < 2 * n → word_of block j ≡ run_word l src f luma u v (2 * done + j)
  block_word j h =
      ⊎_elim
      (λ e. let s : 2 * (j / 2) ≡ j = omega (arith, e) in subst (λ m. get_or block m 0 ≡ run_word l src f luma u v (2 * done + m)) s (first_word (j / 2) (omega (arith, h, e))))
      (λ e. let s : 2 * (j / 2) + 1 ≡ j = omega (arith, e) in subst (λ m. get_or block m 0 ≡ run_word l src f luma u v (2 * done + m)) s (second_word (j / 2) (omega (arith, h, e))))
      (lt_or_eq (j % 2) 1 (omega arith))

  -- written, they are the next texels of the run
  pub block_run : (d to : ℕ) (dst₀ dst out : List ℕ) (off after : ℕ) → off ≡ to + 2 * done * bytes_of d → dst ≡ iterate (word_written (run_word l src f luma u v) d to) (2 * done) dst₀
      → WordsWritten (word_of block) d off (2 * n) dst out after → out ≡ iterate (word_written (run_word l src f luma u v) d to) (2 * done + 2 * n) dst₀
  unfolding word_written
  block_run d to dst₀ dst out off after e g w =
      w.bytes
      ∙ iterate_same (word_written (word_of block) d off) (λ k. word_written word d to (2 * done + k)) (2 * n) dst
      (λ k h m. ap₂ (λ p x. sets m p (encoded_bytes d (decoded_of A8R8G8B8 x))) (omega (arith, e, add-mul (2 * done) k (bytes_of d))) (block_word k h))
      ∙ ap (iterate (λ k. word_written word d to (2 * done + k)) (2 * n)) g
      ∙ sym (iterate_add (word_written word d to) (2 * done) (2 * n) dst₀)
    where
      word : ℕ → ℕ
      word = run_word l src f luma u v

-- ---- a run, block by block
-- the texels of done pairs of a run were written from byte to on; the next pair lies at the places, and its texels start at byte off
pub record WritesPairs (l : Lines) (src : List ℕ) (first : PairPlaces) (d to : ℕ) (was : List ℕ) (done : ℕ) (at : PairPlaces) (dst : List ℕ) (off : ℕ) : Type 0 where
  pub places : After first done at
  pub carried : off ≡ to + 2 * done * bytes_of d
  pub bytes : dst ≡ iterate (word_written (run_from l src first) d to) (2 * done) was

pub written_none : (l : Lines) (src : List ℕ) (first : PairPlaces) (d to : ℕ) (was : List ℕ) → WritesPairs l src first d to was 0 first was to
written_none l src first d to was = record { places = after_none first; carried = omega arith; bytes = sym (iterate_zero _ _) }

-- n more, by way of a block of m words
pub written_more : {l : Lines} {src : List ℕ} {first : PairPlaces} {d to : ℕ} {was : List ℕ} {done : ℕ} {at : PairPlaces} {dst : List ℕ} {off j m : ℕ} {stale block out : List ℕ} {next : PairPlaces} {after : ℕ}
    → (n : ℕ) → WritesPairs l src first d to was done at dst off → j ≡ 2 * n → ReadsPairs l src (format_of at) (luma_at at) (u_at at) (v_at at) (j / 2) stale block
    → m ≡ 2 * n → WordsWritten (word_of block) d off m dst out after → After at n next → WritesPairs l src first d to was (done + n) next out after
written_more {l} {src} {first} {d} {to} {was} {done} {at} {dst} {off} {j} {m} {stale} {block} {out} {next} {after} n p h read e wrote on =
    let pairs : j / 2 ≡ n = omega (arith, h) in
    let there = by_numbers p.places (λ f luma u v. ReadsPairs l src f luma u v n stale block) (subst (λ k. ReadsPairs l src (format_of at) (luma_at at) (u_at at) (v_at at) k stale block) pairs read) in
    let words = subst (λ k. WordsWritten (word_of block) d off k dst out after) e wrote in
    let twice : 2 * done + 2 * n ≡ 2 * (done + n) = omega arith in
    record {
      places = after_more first at next done n p.places on;
      carried = omega (arith, words.carried, p.carried, add-mul (2 * done) (2 * n) (bytes_of d), ap (λ k. k * bytes_of d) twice);
      bytes = block_run l src (format_of first) (luma_at first) (u_at first) (v_at first) done n stale block there d to was dst out off after p.carried p.bytes words
          ∙ ap (λ k. iterate (word_written (run_from l src first) d to) k was) twice;
    }

-- ---- a word is the texel of its sample
opaque_bytes : (p : Rgb) → p.r < 256 → p.g < 256 → p.b < 256 → (c : Channel) → byte_of (opaque_of p) c < 256
opaque_bytes p x y z red = x
opaque_bytes p x y z green = y
opaque_bytes p x y z blue = z
opaque_bytes p x y z alpha = omega arith
opaque_bytes p x y z luminance = luminance_byte p.r p.g p.b x y z
opaque_bytes p x y z depth = omega arith
opaque_bytes p x y z stencil = omega arith
opaque_bytes p x y z padding = omega arith

word_texel : (l : Lines) (y u v : ℕ) → decoded_of A8R8G8B8 (word_on l y u v) ≡ opaque_of (rgb_on l y u v)
unfolding word_on rgb_on joined
word_texel l y u v = word_keeps (opaque_of (rgb_on l y u v)) (opaque_bytes (rgb_on l y u v) (clamp_byte _) (clamp_byte _) (clamp_byte _))

module _ (numbers : YuvSet) (src : List ℕ) (m s d : ℕ) (r : ConvertRegion) (z row first pairs : ℕ) (fits : RowFits (length src) m s d r z row) (yuv : is_yuv s ≡ true)
    (even : (r.source.x + first) % 2 ≡ 0) (within : first + 2 * pairs ≤ r.width) (some : 0 < pairs) where
  -- ---- a run of pairs of a row
  starts : is_planar_yuv s ≡ false → is_packed_yuv s ≡ true → place_of r.source 4 z (r.source.y + row) ((r.source.x + first) / 2) ≡ pos (macro_start s r.source z (r.source.y + row) (r.source.x + first))
  starts = macro_is numbers src s r.source z (r.source.y + row) (r.source.x + first) yuv (fits.source first (omega (arith, within, some))).places

  abbrev x : ℕ
  x = r.source.x + first

  abbrev pub luma : ℕ
  luma = luma_on s r.source z (r.source.y + row) x

  abbrev pub u : ℕ
  u = u_on s r.source z (r.source.y + row) x

  abbrev pub v : ℕ
  v = v_on s r.source z (r.source.y + row) x

  -- the samples of texel j, worked out afresh and by the steps
  luma_in_steps : (j : ℕ) → luma_on s r.source z (r.source.y + row) (x + j) ≡ luma + j % 2 * luma_gap s + j / 2 * luma_step s
  luma_in_steps j =
      ⊎_elim
      (λ e. let i : 2 * (j / 2) ≡ j = omega (arith, e) in
      let none : j % 2 * luma_gap s ≡ 0 * luma_gap s = ap (λ k. k * luma_gap s) (omega (arith, e)) in
      let same : luma + j / 2 * luma_step s ≡ luma + j % 2 * luma_gap s + j / 2 * luma_step s = omega (arith, none, zero-mul (luma_gap s)) in
      ap (λ k. luma_on s r.source z (r.source.y + row) (x + k)) (sym i)
      ∙ first_on s r.source z (r.source.y + row) x yuv even starts (j / 2) ∙ same)
      (λ e. let i : 2 * (j / 2) + 1 ≡ j = omega (arith, e) in
      let one : j % 2 * luma_gap s ≡ 1 * luma_gap s = ap (λ k. k * luma_gap s) e in
      let same : luma + luma_gap s + j / 2 * luma_step s ≡ luma + j % 2 * luma_gap s + j / 2 * luma_step s = omega (arith, one, one-mul (luma_gap s)) in
      ap (λ k. luma_on s r.source z (r.source.y + row) (x + k)) (sym i)
      ∙ second_on s r.source z (r.source.y + row) x yuv even starts (j / 2) ∙ same)
      (lt_or_eq (j % 2) 1 (omega arith))

  half_on : (j : ℕ) → (x + j) / 2 ≡ x / 2 + j / 2
  half_on j = omega (arith, even)

  u_in_steps : (j : ℕ) → u_on s r.source z (r.source.y + row) (x + j) ≡ u + j / 2 * chroma_step s
  u_in_steps j = u_by_half s r.source z (r.source.y + row) x yuv even starts (x + j) (j / 2) (half_on j)

  v_in_steps : (j : ℕ) → v_on s r.source z (r.source.y + row) (x + j) ≡ v + j / 2 * chroma_step s
  v_in_steps j = v_by_half s r.source z (r.source.y + row) x yuv even starts (x + j) (j / 2) (half_on j)

  -- the colour of samples at three places
  abbrev rgb_of_at : (y' u' v' : ℕ) → Rgb
  rgb_of_at y' u' v' = rgb_of numbers (get_or src y' 0) (get_or src u' 0) (get_or src v' 0)

  -- the texel that its word stands for
  word_of_run : (j : ℕ) → j < 2 * pairs → decoded_of A8R8G8B8 (run_word (lines_of numbers) src s luma u v j) ≡ source_texel numbers src s r z row (first + j)
  unfolding run_word source_texel
  word_of_run j h =
      let fit = fits.source (first + j) (omega (arith, h, within)) in
      let shift : r.source.x + (first + j) ≡ x + j = omega arith in
      word_texel (lines_of numbers) _ _ _
      ∙ ap (λ p. opaque_of p) (set_lines numbers _ _ _)
      ∙ ap (λ p. opaque_of p) (sym (λ i. rgb_of_at (luma_in_steps j i) (u_in_steps j i) (v_in_steps j i)))
      ∙ subst (λ k. opaque_of (rgb_of_at (luma_on s r.source z (r.source.y + row) k) (u_on s r.source z (r.source.y + row) k) (v_on s r.source z (r.source.y + row) k)) ≡ texel_at numbers src s r.source z (r.source.y + row) (r.source.x + (first + j)))
      shift (sym (texel_samples numbers src s r.source z (r.source.y + row) (r.source.x + (first + j)) yuv fit.places))

  -- the samples of every pair lie within the source
  pub pairs_in : PairsIn (length src) s luma u v pairs
  pairs_in k h =
      let j : 2 * k + 1 < 2 * pairs = omega (arith, h) in
      let fit = fits.source (first + (2 * k + 1)) (omega (arith, j, within)) in
      let shift : r.source.x + (first + (2 * k + 1)) ≡ x + (2 * k + 1) = omega arith in
      let half : (2 * k + 1) / 2 ≡ k = omega arith in
      let i = samples_in numbers src s r.source z (r.source.y + row) (r.source.x + (first + (2 * k + 1))) yuv fit.places in
      record {
        lumas = subst (λ p. p < length src) (ap (luma_on s r.source z (r.source.y + row)) shift ∙ second_on s r.source z (r.source.y + row) x yuv even starts k) i.luma_in;
        us = subst (λ p. p < length src) (ap (u_on s r.source z (r.source.y + row)) shift ∙ u_in_steps (2 * k + 1) ∙ ap (λ n. u + n * chroma_step s) half) i.u_in;
        vs = subst (λ p. p < length src) (ap (v_on s r.source z (r.source.y + row)) shift ∙ v_in_steps (2 * k + 1) ∙ ap (λ n. v + n * chroma_step s) half) i.v_in;
      }

  -- where its texels go
  run_step : (k : ℕ) → to_at d r z row (first + k) ≡ to_at d r z row first + k * bytes_of d
  unfolding to_at
  run_step k =
      let p = r.destination in
      let here = run_room (length src) m s d r z row first fits (omega (arith, within)) in
      ap up
      (ap (place_of p (bytes_of d) z (r.destination.y + row)) (sym (add_assoc r.destination.x first k)) ∙ along p (bytes_of d) z (r.destination.y + row) (r.destination.x + first) k
      ∙ ap (λ q. q +ℤ pos (k * bytes_of d)) here.place)
      ∙ up_pos (to_at d r z row first + k * bytes_of d)

  -- the run's words, written, are the run
  pub run_pairs : (to : ℕ) (dst out : List ℕ) → to ≡ to_at d r z row first
      → out ≡ iterate (word_written (run_word (lines_of numbers) src s luma u v) d to) (2 * pairs) dst → out ≡ run_written numbers src s d r z row first (2 * pairs) dst
  unfolding word_written run_written written
  run_pairs to dst out e g =
      g ∙ iterate_same (word_written word d to) (λ k. written numbers src s d r z row (first + k)) (2 * pairs) dst
      (λ k h m. ap₂ (λ p t. sets m p (encoded_bytes d t)) (ap (λ p. p + k * bytes_of d) e ∙ sym (run_step k)) (word_of_run k h))
    where
      word : ℕ → ℕ
      word = run_word (lines_of numbers) src s luma u v

  -- the same by the places of the first pair
  module _ (at : PairPlaces) (there : PairAt at s r.source z (r.source.y + row) (r.source.x + first)) where
    pub run_inside : PlacesIn (length src) at pairs
    run_inside = by_places there (λ f y' u' v'. PairsIn (length src) f y' u' v' pairs) pairs_in

    pub run_whole : (to : ℕ) (dst out : List ℕ) → to ≡ to_at d r z row first → out ≡ iterate (word_written (run_from (lines_of numbers) src at) d to) (2 * pairs) dst
        → out ≡ run_written numbers src s d r z row first (2 * pairs) dst
    run_whole to dst out e g = run_pairs to dst out e (by_numbers there (λ f y' u' v'. out ≡ iterate (word_written (run_word (lines_of numbers) src f y' u' v') d to) (2 * pairs) dst) g)
