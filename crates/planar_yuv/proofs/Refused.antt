-- Which pitches and luma rows have no layout, and which have one. Assumes nothing.
use Rattle.std.proofs.Common.{◌≡◌, refl, false, ℕ, ◌+◌, ◌/◌, ◌%◌, ◌*◌, ◌≤◌, ◌<◌, sym, ◌∙◌, arith}
use Rattle.std.specs.Int.{div_ceil}
use Rattle.std.proofs.lemmas.Bool.{false≢true}
use Rattle.formats.specs.Codes.{NV12, YV12}
use Rattle.formats.specs.Classes.{is_planar_yuv}
use Rattle.planar_yuv.specs.Answers.{Reply, refusal, from_pitch}
use Rattle.planar_yuv.proofs.AnswersLaws.{given, not_given}

pub no_pitch : (f pitch rows : ℕ) → pitch ≡ 0 → refusal ≡ from_pitch f pitch rows
no_pitch f pitch rows h = sym (not_given (λ a. omega (arith, a.pitch_some)))

pub too_wide : (f pitch rows : ℕ) → 16384 < pitch → refusal ≡ from_pitch f pitch rows
too_wide f pitch rows h = sym (not_given (λ a. omega (arith, a.pitch_most)))

pub odd_pitch : (f pitch rows : ℕ) → (pitch % 2 ≡ 0 → ⊥) → refusal ≡ from_pitch f pitch rows
odd_pitch f pitch rows n = sym (not_given (λ a. n a.pitch_even))

pub no_rows : (f pitch rows : ℕ) → rows ≡ 0 → refusal ≡ from_pitch f pitch rows
no_rows f pitch rows h = sym (not_given (λ a. omega (arith, a.rows_some)))

pub too_tall : (f pitch rows : ℕ) → 16384 < rows → refusal ≡ from_pitch f pitch rows
too_tall f pitch rows h = sym (not_given (λ a. omega (arith, a.rows_most)))

pub too_many : (f pitch rows : ℕ) → 16384 < rows + div_ceil rows 2 → refusal ≡ from_pitch f pitch rows
too_many f pitch rows h = sym (not_given (λ a. omega (arith, a.together)))

pub laid : (pitch rows : ℕ) → (pitch ≡ 0 → ⊥) → pitch ≤ 16384 → pitch % 2 ≡ 0 → (rows ≡ 0 → ⊥) → rows ≤ 16384 → rows + div_ceil rows 2 ≤ 16384
    → ◌≡◌ {A = Reply} record { number = 0; pitch = pitch; luma_rows = rows; chroma_rows = div_ceil rows 2; total_bytes = pitch * (rows + div_ceil rows 2) } (from_pitch NV12 pitch rows)
unfolding is_planar_yuv
laid pitch rows p q e r s t =
    let h : div_ceil rows 2 ≡ (rows + 1) / 2 = omega arith in
    rw h
    (sym
    (given
    (record {
      planar = refl;
      pitch_some = omega arith;
      pitch_most = q;
      pitch_even = e;
      rows_some = omega arith;
      rows_most = s;
      rows_even = λ z. absurd (omega (arith, z));
      together = omega (arith, h);
    })))

pub no_planar : (f pitch rows : ℕ) → is_planar_yuv f ≡ false → refusal ≡ from_pitch f pitch rows
no_planar f pitch rows h = sym (not_given (λ a. false≢true (sym h ∙ a.planar)))

pub odd_yv12 : (f pitch rows : ℕ) → f ≡ YV12 → (rows % 2 ≡ 0 → ⊥) → refusal ≡ from_pitch f pitch rows
odd_yv12 f pitch rows e n = sym (not_given (λ a. n (a.rows_even e)))
