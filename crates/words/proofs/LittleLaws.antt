-- Laws on what specs/Little defines. Assumes nothing.
use Rattle.std.specs.Prelude.{◌≡◌, refl, List, [], ◌∷◌, ◌++◌, ℕ, zero, suc, ◌+◌, ◌-◌, ◌*◌, ◌/◌, ◌%◌, ◌^◌, ◌≤◌, ◌<◌, length, take, drop, get_or}
use Rattle.std.proofs.Common.{sym, ap, ap₂, ◌∙◌, subst, arith, suc-mul, suc-add, zero-add, add_comm, mul_assoc, mul_comm, div-one, div-add-mod', pow-add, shr_lt, shr-shr, take-add, length-take-le}
use Rattle.std.proofs.lemmas.List.{take_rest}
use Rattle.std.proofs.Math.Nat.{zero-div}
use Rattle.std.proofs.Math.Arith.{digits_div, digits_mod, digits_lt}
use Rattle.words.specs.Little.{number, bytes}

-- every element is below 256
abbrev pub Small : List ℕ → Type 0
Small [] = Unit {0}
Small (b ∷ bs) = (b < 256) × Small bs

eight_more : (n : ℕ) → 2 ^ (suc n * 8) ≡ 2 ^ (n * 8) * 256
eight_more n = ap (λ x. 2 ^ x) (suc-mul n 8) ∙ pow-add 2 (n * 8) 8

-- ---- lists of bytes
pub small_list : (l : List ℕ) → ((i : ℕ) → i < length l → get_or l i 0 < 256) → Small l
small_list [] h = tt
small_list (b ∷ bs) h = (h 0 (omega arith), small_list bs (λ i k. h (suc i) (omega arith)))

pub small_take : (n : ℕ) (l : List ℕ) → Small l → Small (take n l)
small_take zero l h = tt
small_take (suc n) [] h = tt
small_take (suc n) (b ∷ bs) h = (h.0, small_take n bs h.1)

pub small_drop : (n : ℕ) (l : List ℕ) → Small l → Small (drop n l)
small_drop zero l h = h
small_drop (suc n) [] h = tt
small_drop (suc n) (b ∷ bs) h = small_drop n bs h.1

-- the first n bytes from a on are those of the part from a on
pub number_rest : (n a : ℕ) (l : List ℕ) → number (take n (take (length l - a) (drop a l))) ≡ number (take n (drop a l))
number_rest n a l = ap (λ m. number (take n m)) (take_rest l a)

-- ---- there and back
pub length_bytes : (n w : ℕ) → length (bytes n w) ≡ n
length_bytes zero w = refl
length_bytes (suc n) w = ap suc (length_bytes n (w / 256))

pub number_bytes : (n w : ℕ) → w < 2 ^ (n * 8) → number (bytes n w) ≡ w
number_bytes zero w h = omega arith
number_bytes (suc n) w h =
    ap (λ x. x * 256 + w % 256) (number_bytes n (w / 256) (shr_lt (n * 8) 8 (subst (λ x. w < 2 ^ x) (suc-mul n 8) h))) ∙ div-add-mod' w 256

pub bytes_number : (l : List ℕ) → Small l → bytes (length l) (number l) ≡ l
bytes_number [] h = refl
bytes_number (b ∷ bs) h =
    ap₂ (λ x y. x ∷ bytes (length bs) y) (digits_mod (number bs) h.0) (digits_div (number bs) h.0) ∙ ap (λ y. b ∷ y) (bytes_number bs h.1)

pub number_lt : (l : List ℕ) → Small l → number l < 2 ^ (length l * 8)
number_lt [] h = omega arith
number_lt (b ∷ bs) h = subst (λ x. number bs * 256 + b < x) (sym (eight_more (length bs))) (digits_lt (number_lt bs h.1) h.0)

-- ---- a number in two parts
pub number_append : (l m : List ℕ) → number (l ++ m) ≡ number l + 2 ^ (length l * 8) * number m
number_append [] m = omega arith
number_append (b ∷ bs) m =
    let e : 2 ^ (suc (length bs) * 8) * number m ≡ 2 ^ (length bs * 8) * number m * 256 =
    ap (λ x. x * number m) (eight_more (length bs)) ∙ mul_assoc (2 ^ (length bs * 8)) 256 (number m)
    ∙ ap (λ x. 2 ^ (length bs * 8) * x) (mul_comm 256 (number m)) ∙ sym (mul_assoc (2 ^ (length bs * 8)) (number m) 256) in
    omega (arith, e, number_append bs m)

pub number_split : (a b : ℕ) (l : List ℕ) → a ≤ length l → number (take (a + b) l) ≡ number (take a l) + 2 ^ (a * 8) * number (take b (drop a l))
number_split a b l h =
    ap number (take-add a b l) ∙ number_append (take a l) (take b (drop a l))
    ∙ ap (λ x. number (take a l) + 2 ^ (x * 8) * number (take b (drop a l))) (length-take-le a l h)

-- eight bits of the number are one byte
pub number_byte : (l : List ℕ) → Small l → (i : ℕ) → number l / 2 ^ (i * 8) % 256 ≡ get_or l i 0
number_byte [] h i = ap (λ x. x % 256) (zero-div (2 ^ (i * 8)))
number_byte (b ∷ bs) h zero = omega (arith, h.0)
number_byte (b ∷ bs) h (suc i) =
    ap (λ x. (number bs * 256 + b) / 2 ^ x % 256) (suc-mul i 8 ∙ add_comm (i * 8) 8)
    ∙ ap (λ x. x % 256) (sym (shr-shr (number bs * 256 + b) 8 (i * 8)))
    ∙ ap (λ x. x / 2 ^ (i * 8) % 256) (digits_div (number bs) h.0)
    ∙ number_byte bs h.1 i

-- ---- bytes in two parts
pub bytes_split : (a b w : ℕ) → bytes (a + b) w ≡ bytes a w ++ bytes b (w / 2 ^ (a * 8))
bytes_split zero b w = ap₂ bytes (zero-add b) (sym (div-one w))
bytes_split (suc a) b w =
    ap (λ x. bytes x w) (suc-add a b)
    ∙ ap (λ x. w % 256 ∷ x) (bytes_split a b (w / 256))
    ∙ ap (λ x. (w % 256 ∷ bytes a (w / 256)) ++ bytes b x) (shr-shr w 8 (a * 8) ∙ ap (λ x. w / 2 ^ x) (add_comm 8 (a * 8) ∙ sym (suc-mul a 8)))
