-- Words of texels: what shifts, masks and quotients of them are, in terms of lanes.
-- Assumes nothing.
use Rattle.std.specs.Prelude.{◌≡◌, refl, List, ◌++◌, ℕ, ◌+◌, ◌*◌, ◌-◌, ◌/◌, ◌%◌, ◌^◌, ◌≤◌, ◌<◌, length, take, drop}
use Rattle.std.proofs.Common.{ap, ◌∙◌, subst, arith, add_comm, mul_comm, shl_exact, lit<, length-drop, length-take-le}
use Rattle.std.specs.Int.Bits.{bit_or}
use Rattle.std.proofs.lemmas.Nat.{or_shifted}
use Rattle.std.proofs.Math.Pow.{high, low}
use Rattle.std.proofs.lemmas.List.Edits.{sets}
use Rattle.words.proofs.LittleLaws.{Small, number_split, number_lt, small_take, small_drop, length_bytes}
use Rattle.words.specs.Little.{number}
use Rattle.words.proofs.Slices.{part_back}
use Rattle.formats.specs.Lanes.{code_at}
use Rattle.formats.specs.Table.{bytes_of}
use Rattle.channels.specs.Expansion.{expanded}
use Rattle.channels.proofs.ExpansionLaws.{two_copies}
use Rattle.channels.specs.Nearest.{rounded}
use Rattle.channels.proofs.Nearest.{rounded_same}
use Rattle.texels.specs.declared.Texel.{Texel}
use Rattle.texels.specs.Texels.{encoded_of, encoded_bytes}

-- a byte expands to itself
pub expanded_eight : (k : ℕ) → k < 256 → expanded 8 k ≡ k
expanded_eight k h = two_copies 8 (omega arith) (omega arith) k h ∙ omega arith

-- the nearest of k / 257 is the nearest of 255 k / 65535
pub sixteen : (k : ℕ) → rounded k 257 ≡ rounded (255 * k) 65535
sixteen k = rounded_same k 257 (255 * k) 65535 (lit< tt) (lit< tt) (omega arith)

-- `(v << k) | rest` on a word of w bits, where v has n bits and rest k
pub onto : (w v n k rest : ℕ) → v < 2 ^ n → n + k ≤ w → rest < 2 ^ k → bit_or (v * 2 ^ k % 2 ^ w) rest ≡ v * 2 ^ k + rest
onto w v n k rest h l r = ap (λ x. bit_or x rest) (shl_exact n k w h l) ∙ or_shifted v k rest r

-- on a u16
pub part_onto : (v n k rest : ℕ) → v < 2 ^ n → n + k ≤ 16 → rest < 2 ^ k → bit_or (v * 2 ^ k % 2 ^ 16) rest ≡ v * 2 ^ k + rest
part_onto = onto 16

-- the lane of whole bytes from byte a on, n bytes wide, is the number of those bytes
pub byte_lane : (a n rest : ℕ) (l : List ℕ) → Small l → a + n ≤ length l → code_at (a * 8) (n * 8) (number (take (a + (n + rest)) l)) ≡ number (take n (drop a l))
byte_lane a n rest l s h =
    let m = number (take n (drop a l)) in
    let low-lt : number (take a l) < 2 ^ (a * 8) =
    subst (λ k. number (take a l) < 2 ^ (k * 8)) (length-take-le a l (omega arith)) (number_lt (take a l) (small_take a l s)) in
    let m-lt : m < 2 ^ (n * 8) =
    subst (λ k. m < 2 ^ (k * 8)) (length-take-le n (drop a l) (omega (arith, length-drop a l))) (number_lt (take n (drop a l)) (small_take n (drop a l) (small_drop a l s))) in
    let e : number (take (a + (n + rest)) l) ≡ number (take (n + rest) (drop a l)) * 2 ^ (a * 8) + number (take a l) =
    number_split a (n + rest) l (omega arith) ∙ add_comm _ _ ∙ ap (λ x. x + number (take a l)) (mul_comm _ _) in
    let f : number (take (n + rest) (drop a l)) ≡ number (take rest (drop n (drop a l))) * 2 ^ (n * 8) + m =
    number_split n rest (drop a l) (omega (arith, length-drop a l)) ∙ add_comm _ _ ∙ ap (λ x. x + m) (mul_comm _ _) in
    ap (λ w. w / 2 ^ (a * 8) % 2 ^ (n * 8)) e
    ∙ ap (λ w. w % 2 ^ (n * 8)) (high (number (take (n + rest) (drop a l))) (a * 8) low-lt)
    ∙ ap (λ w. w % 2 ^ (n * 8)) f
    ∙ low (number (take rest (drop n (drop a l)))) (n * 8) m-lt

-- a texel has its format's number of bytes
pub encoded_length : (f : ℕ) (t : Texel) → length (encoded_bytes f t) ≡ bytes_of f
unfolding encoded_bytes
encoded_length f t = length_bytes (bytes_of f) (encoded_of f t)

-- the part of a buffer that was lent for a texel, back in its place
pub texel_back : (dst : List ℕ) (f off : ℕ) (t : Texel) (part : List ℕ) → off + bytes_of f ≤ length dst → part ≡ sets (take (length dst - off) (drop off dst)) 0 (encoded_bytes f t)
    → take off dst ++ (part ++ drop (length dst - off) (drop off dst)) ≡ sets dst off (encoded_bytes f t)
texel_back dst f off t part h e =
    ap (λ (l : List ℕ). take off dst ++ (l ++ drop (length dst - off) (drop off dst))) e
    ∙ part_back dst off (length dst - off) (encoded_bytes f t) refl (omega (arith, h, encoded_length f t))
