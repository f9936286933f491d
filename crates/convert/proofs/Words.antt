-- A fill's word as its sixteen bytes. Assumes nothing.
use Rattle.std.proofs.Common.{◌≡◌, refl, sym, ap, ap₂, ◌∙◌, Bool, true, false, List, ◌∷◌, ◌++◌, replicate, ℕ, zero, suc, ◌+◌, ◌*◌, ◌-◌, ◌/◌, ◌%◌, ◌^◌, ◌≤◌, ◌<◌, div-one, div-add-mod', pow-suc, arith, leb, leb→le}
use native.Mathlib.Nat.{div-div-eq-div-mul, div-eq_of_lt}
use Rattle.std.specs.Int.{byte_at, bytes_low_first}
use Rattle.words.specs.Tests.{pick}
use Rattle.words.specs.Little.{bytes}
use Rattle.words.proofs.LittleLaws.{bytes_split}
use Rattle.formats.specs.Lanes.{bits}
use Rattle.formats.specs.Classes.{listed}
use Rattle.formats.specs.Table.{bytes_of}
use Rattle.formats.proofs.TableLaws.{by_table}
use Rattle.convert.specs.Fill.{fill_formats, filled, refused, word_of, fill_of}

-- ---- a word's bytes, as the library's methods list them
low_first : (i k n m : ℕ) → m ≡ n / 256 ^ i → bytes_low_first i k n ≡ bytes k m
low_first i zero n m e = refl
low_first i (suc k) n m e = ap₂ (λ (x : ℕ) (y : List ℕ). x ∷ y) (this i e) (low_first (suc i) k n (m / 256) next)
  where
    this : (i : ℕ) → m ≡ n / 256 ^ i → byte_at i n ≡ m % 256
    this zero e = ap (λ x. x % 256) (sym (e ∙ div-one n))
    this (suc i) e = ap (λ x. x % 256) (sym e)

    next : m / 256 ≡ n / 256 ^ suc i
    next = ap (λ x. x / 256) e ∙ div-div-eq-div-mul n (256 ^ i) 256 ∙ ap (λ x. n / x) (sym (pow-suc 256 i))

word_bytes : (k n : ℕ) → bytes_low_first 0 k n ≡ bytes k n
word_bytes k n = low_first 0 k n n (sym (div-one n))

-- ---- the bytes past a word are zeros
no_bytes : (k : ℕ) → bytes k 0 ≡ replicate k 0
no_bytes zero = refl
no_bytes (suc k) = ap (λ (l : List ℕ). 0 ∷ l) (no_bytes k)

pub zeros_above : (n w : ℕ) → n ≤ 16 → w < 2 ^ (n * 8) → bytes_low_first 0 16 w ≡ bytes n w ++ replicate (16 - n) 0
zeros_above n w u h =
    let e : 16 ≡ n + (16 - n) = omega arith in
    word_bytes 16 w
    ∙ ap (λ k. bytes k w) e
    ∙ bytes_split n (16 - n) w
    ∙ ap (λ x. bytes n w ++ bytes (16 - n) x) (div-eq_of_lt h)
    ∙ ap (λ l. bytes n w ++ l) (no_bytes (16 - n))

-- a texel has sixteen bytes at most: computed for each row of the table
pub texel_fits : (f : ℕ) → bytes_of f ≤ 16
unfolding bytes_of
texel_fits f = leb→le _ _ (by_table (λ ps. leb (bits ps / 8) 16) tt tt f)

-- ---- the fill of a format's word, and of a format that has none
pub filled_is : (color f : ℕ) → listed f fill_formats ≡ true → word_of color f < 2 ^ (bytes_of f * 8)
    → fill_of color f ≡ record { bytes = bytes_low_first 0 16 (word_of color f); len = bytes_of f; reply = 0 }
unfolding fill_of
filled_is color f e h =
    ap (λ (x : Bool). pick x (filled (bytes_of f) (word_of color f)) refused) e
    ∙ ap (λ (l : List ℕ). record { bytes = l; len = bytes_of f; reply = 0 }) (sym (zeros_above (bytes_of f) (word_of color f) (texel_fits f) h))

pub not_filled : (color f : ℕ) → listed f fill_formats ≡ false → fill_of color f ≡ refused
unfolding fill_of
not_filled color f e = ap (λ (x : Bool). pick x (filled (bytes_of f) (word_of color f)) refused) e

-- ---- a colour is the word of its four bytes
digits : (v a b c x y z : ℕ) → v ≡ a * 256 + x → a ≡ b * 256 + y → b ≡ c * 256 + z → c * 16777216 + z * 65536 + y * 256 + x ≡ v
digits v a b c x y z p q r = omega arith

pub whole : (v : ℕ) → v < 4294967296 → v / 16777216 % 256 * 16777216 + v / 65536 % 256 * 65536 + v / 256 % 256 * 256 + v % 256 ≡ v
whole v h =
    let top : v / 16777216 % 256 ≡ v / 16777216 = omega arith in
    ap (λ x. x * 16777216 + v / 65536 % 256 * 65536 + v / 256 % 256 * 256 + v % 256) top
    ∙ digits v (v / 256) (v / 65536) (v / 16777216) (v % 256) (v / 256 % 256) (v / 65536 % 256) (sym (div-add-mod' v 256))
    (sym (div-add-mod' (v / 256) 256) ∙ ap (λ x. x * 256 + v / 256 % 256) (div-div-eq-div-mul v 256 256))
    (sym (div-add-mod' (v / 65536) 256) ∙ ap (λ x. x * 256 + v / 65536 % 256) (div-div-eq-div-mul v 65536 256))
