-- Exact values of channels, in 255ths of full scale; proofs/ExactLaws says how near each way of reading or writing a channel comes to them.
-- Assumes nothing.
use Rattle.std.specs.Prelude.{ℕ, ◌*◌, ◌-◌, ◌^◌, ltb, Float}
use Rattle.words.specs.Tests.{pick}
use Rattle.channels.specs.Fractions.{Fraction, ◌over◌}
use Rattle.channels.specs.Floats.{clamped}

-- the exact value of an n-bit code k: 255 k / (2^n - 1)
abbrev pub code_value : (n k : ℕ) → Fraction
code_value n k = 255 * k over (2 ^ n - 1)

-- an n-bit code in two's complement, and 0 where it is negative
unfoldable pub not_negative : (n k : ℕ) → ℕ
not_negative n k = pick (ltb k (2 ^ (n - 1))) k 0

-- the exact value of an n-bit code k with a sign: 255 k / (2^(n-1) - 1), and 0 where it is negative
abbrev pub signed_value : (n k : ℕ) → Fraction
signed_value n k = 255 * not_negative n k over (2 ^ (n - 1) - 1)

-- the exact value of a binary32 channel: 255 times the number clamped to 0..1
abbrev pub float_value : Float → Fraction
float_value x = 255 * (clamped x).top over (clamped x).bottom
