-- Laws on what specs/Fractions defines. Assumes nothing.
use Rattle.std.specs.Prelude.{◌≡◌, refl, ℕ, ◌+◌, ◌*◌, ◌≤◌, ◌<◌}
use Rattle.std.proofs.Common.{sym, ap, ap₂, ◌∙◌, subst, arith, add_comm, add-mul, mul_assoc, mul_comm, mul-one, one-mul, mul_left_comm, mul_right_comm, mul-le-mul_right, le_of_mul-le-mul_right, mul-pos}
use Rattle.channels.specs.Fractions.{Fraction, ◌over◌, AtMost, Near, mean}

-- ---- the triangle inequality
half : (a b c d m e p q : ℕ) → 0 < m → 4 * (a * m) ≤ 4 * (c * b) + p * (b * m) → 4 * (c * e) ≤ 4 * (d * m) + q * (m * e) →
    4 * (a * e) ≤ 4 * (d * b) + (p + q) * (b * e)
half a b c d m e p q M h i = le_of_mul-le-mul_right (omega (arith, l1, l2, l3, l4, l5, l6, mul-le-mul_right e h, mul-le-mul_right b i)) M
  where
    l1 : 4 * (a * m) * e ≡ 4 * (a * e * m)
    l1 = mul_assoc 4 (a * m) e ∙ ap (λ n. 4 * n) (mul_right_comm a m e)

    l2 : (4 * (c * b) + p * (b * m)) * e ≡ 4 * (c * b * e) + p * (b * e * m)
    l2 = add-mul (4 * (c * b)) (p * (b * m)) e ∙ ap₂ (λ x y. x + y) (mul_assoc 4 (c * b) e) (mul_assoc p (b * m) e ∙ ap (λ n. p * n) (mul_right_comm b m e))

    l3 : 4 * (c * e) * b ≡ 4 * (c * b * e)
    l3 = mul_assoc 4 (c * e) b ∙ ap (λ n. 4 * n) (mul_right_comm c e b)

    l4 : (4 * (d * m) + q * (m * e)) * b ≡ 4 * (d * b * m) + q * (b * e * m)
    l4 = add-mul (4 * (d * m)) (q * (m * e)) b
        ∙ ap₂ (λ x y. x + y) (mul_assoc 4 (d * m) b ∙ ap (λ n. 4 * n) (mul_right_comm d m b))
        (mul_assoc q (m * e) b ∙ ap (λ n. q * n) (mul_comm (m * e) b ∙ sym (mul_assoc b m e) ∙ mul_right_comm b m e))

    l5 : 4 * (a * e) * m ≡ 4 * (a * e * m)
    l5 = mul_assoc 4 (a * e) m

    l6 : (4 * (d * b) + (p + q) * (b * e)) * m ≡ 4 * (d * b * m) + (p * (b * e * m) + q * (b * e * m))
    l6 = add-mul (4 * (d * b)) ((p + q) * (b * e)) m
        ∙ ap₂ (λ x y. x + y) (mul_assoc 4 (d * b) m) (mul_assoc (p + q) (b * e) m ∙ add-mul p q (b * e * m))

pub triangle : {p q : ℕ} {x y z : Fraction} → Near p x y → Near q y z → Near (p + q) x z
triangle {p} {q} {x} {y} {z} h i = record {
  left_real = h.left_real;
  right_real = i.right_real;
  not_above = half x.top x.bottom y.top z.top y.bottom z.bottom p q h.right_real h.not_above i.not_above;
  not_below =
      subst (λ n. AtMost n z x) (add_comm q p)
      (half z.top z.bottom y.top x.top y.bottom x.bottom q p h.right_real i.not_below h.not_below);
}

-- what is near is near with more quarters
pub weaker : {p q : ℕ} {x y : Fraction} → p ≤ q → Near p x y → Near q x y
weaker {p} {q} {x} {y} h n = record {
  left_real = n.left_real;
  right_real = n.right_real;
  not_above = omega (arith, n.not_above, mul-le-mul_right (x.bottom * y.bottom) h);
  not_below = omega (arith, n.not_below, mul-le-mul_right (y.bottom * x.bottom) h);
}

-- ---- a whole number beside a fraction
pub whole_near : (q v t b : ℕ) → 0 < b → 4 * (v * b) ≤ 4 * t + q * b → 4 * t ≤ 4 * (v * b) + q * b → Near q (v over 1) (t over b)
whole_near q v t b B h i = record {
  left_real = omega arith;
  right_real = B;
  not_above = omega (arith, h, ap (λ n. q * n) (one-mul b));
  not_below = omega (arith, i, ap (λ n. q * n) (mul-one b));
}

pub near_sym : {q : ℕ} {x y : Fraction} → Near q x y → Near q y x
near_sym n = record { left_real = n.right_real; right_real = n.left_real; not_above = n.not_below; not_below = n.not_above }

-- ---- the mean of three whole numbers, each near a fraction, is near the mean of the fractions
up : (v b t k D q : ℕ) → b * k ≡ D → AtMost q (v over 1) (t over b) → 4 * (v * D) ≤ 4 * (t * k) + q * D
up v b t k D q e h = omega (arith, l, r, mul-le-mul_right k h)
  where
    l : 4 * (v * b) * k ≡ 4 * (v * D)
    l = mul_assoc 4 (v * b) k ∙ ap (λ n. 4 * n) (mul_assoc v b k ∙ ap (λ n. v * n) e)

    r : (4 * (t * 1) + q * (1 * b)) * k ≡ 4 * (t * k) + q * D
    r = add-mul (4 * (t * 1)) (q * (1 * b)) k
        ∙ ap₂ (λ x y. x + y) (mul_assoc 4 (t * 1) k ∙ ap (λ n. 4 * (n * k)) (mul-one t)) (mul_assoc q (1 * b) k ∙ ap (λ n. q * n) (ap (λ n. n * k) (one-mul b) ∙ e))

down : (v b t k D q : ℕ) → b * k ≡ D → AtMost q (t over b) (v over 1) → 4 * (t * k) ≤ 4 * (v * D) + q * D
down v b t k D q e h = omega (arith, l, r, mul-le-mul_right k h)
  where
    l : 4 * (t * 1) * k ≡ 4 * (t * k)
    l = mul_assoc 4 (t * 1) k ∙ ap (λ n. 4 * (n * k)) (mul-one t)

    r : (4 * (v * b) + q * (b * 1)) * k ≡ 4 * (v * D) + q * D
    r = add-mul (4 * (v * b)) (q * (b * 1)) k
        ∙ ap₂ (λ x y. x + y) (mul_assoc 4 (v * b) k ∙ ap (λ n. 4 * n) (mul_assoc v b k ∙ ap (λ n. v * n) e)) (mul_assoc q (b * 1) k ∙ ap (λ n. q * n) (ap (λ n. n * k) (mul-one b) ∙ e))

-- the weighted sum, times the common bottom
spread : (r g b D : ℕ) → (2125 * r + 7154 * g + 721 * b) * (10000 * D) ≡ 10000 * (2125 * (r * D) + 7154 * (g * D) + 721 * (b * D))
spread r g b D =
    mul_left_comm (2125 * r + 7154 * g + 721 * b) 10000 D
    ∙ ap (λ n. 10000 * n) (add-mul (2125 * r + 7154 * g) (721 * b) D
    ∙ ap₂ (λ x y. x + y) (add-mul (2125 * r) (7154 * g) D ∙ ap₂ (λ x y. x + y) (mul_assoc 2125 r D) (mul_assoc 7154 g D)) (mul_assoc 721 b D))

lifted : (q D : ℕ) → q * (10000 * (10000 * D)) ≡ 100000000 * (q * D)
lifted q D = mul_left_comm q 10000 (10000 * D) ∙ ap (λ n. 10000 * n) (mul_left_comm q 10000 D) ∙ sym (mul_assoc 10000 10000 (q * D))

lifted' : (q D : ℕ) → q * (10000 * D * 10000) ≡ 100000000 * (q * D)
lifted' q D = ap (λ n. q * n) (mul_comm (10000 * D) 10000) ∙ lifted q D

module _ (q r g b xt xb yt yb zt zb D : ℕ) (ex : xb * (yb * zb) ≡ D) (ey : yb * (xb * zb) ≡ D) (ez : zb * (xb * yb) ≡ D) where
  abbrev weights : ℕ
  weights = 2125 * (xt * (yb * zb)) + 7154 * (yt * (xb * zb)) + 721 * (zt * (xb * yb))

  mean_up : AtMost q (r over 1) (xt over xb) → AtMost q (g over 1) (yt over yb) → AtMost q (b over 1) (zt over zb) →
      AtMost q ((2125 * r + 7154 * g + 721 * b) over 10000) (weights over (10000 * D))
  mean_up hr hg hb = omega (arith, up r xb xt (yb * zb) D q ex hr, up g yb yt (xb * zb) D q ey hg, up b zb zt (xb * yb) D q ez hb, spread r g b D, lifted q D)

  mean_down : AtMost q (xt over xb) (r over 1) → AtMost q (yt over yb) (g over 1) → AtMost q (zt over zb) (b over 1) →
      AtMost q (weights over (10000 * D)) ((2125 * r + 7154 * g + 721 * b) over 10000)
  mean_down hr hg hb = omega (arith, down r xb xt (yb * zb) D q ex hr, down g yb yt (xb * zb) D q ey hg, down b zb zt (xb * yb) D q ez hb, spread r g b D, lifted' q D)

pub mean_near : {q : ℕ} (r g b : ℕ) {x y z : Fraction} → Near q (r over 1) x → Near q (g over 1) y → Near q (b over 1) z →
    Near q ((2125 * r + 7154 * g + 721 * b) over 10000) (mean x y z)
mean_near {q} r g b {x} {y} {z} hr hg hb =
    let ey = mul_left_comm y.bottom x.bottom z.bottom in
    let ez = mul_comm z.bottom (x.bottom * y.bottom) ∙ mul_assoc x.bottom y.bottom z.bottom in
    record {
      left_real = omega arith;
      right_real = mul-pos {m = 10000} (omega arith) (mul-pos hr.right_real (mul-pos hg.right_real hb.right_real));
      not_above = mean_up q r g b x.top x.bottom y.top y.bottom z.top z.bottom (x.bottom * (y.bottom * z.bottom)) refl ey ez hr.not_above hg.not_above hb.not_above;
      not_below = mean_down q r g b x.top x.bottom y.top y.bottom z.top z.bottom (x.bottom * (y.bottom * z.bottom)) refl ey ez hr.not_below hg.not_below hb.not_below;
    }
