-- What the places of a pair say, variant by variant. Assumes nothing.
use Rattle.std.proofs.Common.{◌≡◌, refl, ℕ, ◌+◌, ◌*◌, ◌<◌, ◌^◌, List, sym, subst, arith}
use Rattle.formats.specs.Classes.{is_packed_yuv}
use Rattle.texels.specs.Blocks.{TexelsIn}
use Rattle.pixel_convert.specs.declared.pairs.PairPlaces.{PairPlaces}
use Rattle.pixel_convert.specs.declared.pairs.PairPlaces.TheVariants.{Yuy2, Uyvy, Yv12, Nv12}
use Rattle.pixel_convert.specs.Gathering.{luma_step, luma_gap, chroma_step, GathersBytes}
use Rattle.pixel_convert.proofs.GatheringLaws.{gathered_at}
use Rattle.pixel_convert.specs.Places.{PlacesIn, GathersLumas, GathersChromas, HasAfter, After}

module _ {at : PairPlaces} where
  -- ---- further on
  pub yuy2_room : {n m : ℕ} → at ≡ Yuy2 m → HasAfter at n → m + 4 * n < 2 ^ 64
  unfolding luma_step chroma_step is_packed_yuv
  yuy2_room {n} e h = let r = subst (λ p. HasAfter p n) e h in omega (arith, r.luma)

  pub uyvy_room : {n m : ℕ} → at ≡ Uyvy m → HasAfter at n → m + 4 * n < 2 ^ 64
  unfolding luma_step chroma_step is_packed_yuv
  uyvy_room {n} e h = let r = subst (λ p. HasAfter p n) e h in omega (arith, r.luma)

  pub yv12_room : {n l u v : ℕ} → at ≡ Yv12 l u v → HasAfter at n → (l + 2 * n < 2 ^ 64) × (u + n < 2 ^ 64) × (v + n < 2 ^ 64)
  unfolding luma_step chroma_step is_packed_yuv
  yv12_room {n} e h = let r = subst (λ p. HasAfter p n) e h in (omega (arith, r.luma), omega (arith, r.u), omega (arith, r.v))

  pub nv12_room : {n l w : ℕ} → at ≡ Nv12 l w → HasAfter at n → (l + 2 * n < 2 ^ 64) × (w + 2 * n < 2 ^ 64)
  unfolding luma_step chroma_step is_packed_yuv
  nv12_room {n} e h = let r = subst (λ p. HasAfter p n) e h in (omega (arith, r.luma), omega (arith, r.u))

  pub yuy2_after : (n : ℕ) {m : ℕ} → at ≡ Yuy2 m → After at n (Yuy2 (m + 4 * n))
  unfolding luma_step chroma_step is_packed_yuv
  yuy2_after n {m} e = subst (λ p. After p n (Yuy2 (m + 4 * n))) (sym e) (record { format = refl; luma_is = omega arith; u_is = omega arith; v_is = omega arith })

  pub uyvy_after : (n : ℕ) {m : ℕ} → at ≡ Uyvy m → After at n (Uyvy (m + 4 * n))
  unfolding luma_step chroma_step is_packed_yuv
  uyvy_after n {m} e = subst (λ p. After p n (Uyvy (m + 4 * n))) (sym e) (record { format = refl; luma_is = omega arith; u_is = omega arith; v_is = omega arith })

  pub yv12_after : (n : ℕ) {l u v : ℕ} → at ≡ Yv12 l u v → After at n (Yv12 (l + 2 * n) (u + n) (v + n))
  unfolding luma_step chroma_step is_packed_yuv
  yv12_after n {l} {u} {v} e = subst (λ p. After p n (Yv12 (l + 2 * n) (u + n) (v + n))) (sym e) (record { format = refl; luma_is = omega arith; u_is = omega arith; v_is = omega arith })

  pub nv12_after : (n : ℕ) {l w : ℕ} → at ≡ Nv12 l w → After at n (Nv12 (l + 2 * n) (w + 2 * n))
  unfolding luma_step chroma_step is_packed_yuv
  nv12_after n {l} {w} e = subst (λ p. After p n (Nv12 (l + 2 * n) (w + 2 * n))) (sym e) (record { format = refl; luma_is = omega arith; u_is = omega arith; v_is = omega arith })

module _ {at : PairPlaces} {len n : ℕ} (r : PlacesIn len at n) where
  -- ---- room
  pub yuy2_in : {m : ℕ} → at ≡ Yuy2 m → TexelsIn len m 4 4 n
  unfolding chroma_step is_packed_yuv
  yuy2_in e k h = omega (arith, (subst (λ p. PlacesIn len p n) e r k h).vs)

  pub uyvy_in : {m : ℕ} → at ≡ Uyvy m → TexelsIn len m 4 4 n
  unfolding luma_step luma_gap is_packed_yuv
  uyvy_in e k h = omega (arith, (subst (λ p. PlacesIn len p n) e r k h).lumas)

  pub yv12_lumas_in : {l u v : ℕ} → at ≡ Yv12 l u v → TexelsIn len l 2 2 n
  unfolding luma_step luma_gap is_packed_yuv
  yv12_lumas_in e k h = omega (arith, (subst (λ p. PlacesIn len p n) e r k h).lumas)

  pub nv12_lumas_in : {l w : ℕ} → at ≡ Nv12 l w → TexelsIn len l 2 2 n
  unfolding luma_step luma_gap is_packed_yuv
  nv12_lumas_in e k h = omega (arith, (subst (λ p. PlacesIn len p n) e r k h).lumas)

  pub u_plane_in : {l u v : ℕ} → at ≡ Yv12 l u v → TexelsIn len u 1 1 n
  unfolding chroma_step is_packed_yuv
  u_plane_in e k h = omega (arith, (subst (λ p. PlacesIn len p n) e r k h).us)

  pub v_plane_in : {l u v : ℕ} → at ≡ Yv12 l u v → TexelsIn len v 1 1 n
  unfolding chroma_step is_packed_yuv
  v_plane_in e k h = omega (arith, (subst (λ p. PlacesIn len p n) e r k h).vs)

  pub nv12_chromas_in : {l w : ℕ} → at ≡ Nv12 l w → TexelsIn len w 2 2 n
  unfolding chroma_step is_packed_yuv
  nv12_chromas_in e k h = omega (arith, (subst (λ p. PlacesIn len p n) e r k h).vs)

module _ {at : PairPlaces} {src out : List ℕ} {n : ℕ} where
  -- ---- gathered
  pub yuy2_lumas : {m : ℕ} → at ≡ Yuy2 m → GathersBytes src (m + 0) (m + 0 + 2) 4 n out → GathersLumas src at n out
  unfolding luma_step luma_gap is_packed_yuv
  yuy2_lumas e g = subst (λ p. GathersLumas src p n out) (sym e) (gathered_at (omega arith) (omega arith) refl g)

  pub uyvy_lumas : {m : ℕ} → at ≡ Uyvy m → GathersBytes src (m + 1) (m + 1 + 2) 4 n out → GathersLumas src at n out
  unfolding luma_step luma_gap is_packed_yuv
  uyvy_lumas e g = subst (λ p. GathersLumas src p n out) (sym e) g

  pub yv12_lumas : {l u v : ℕ} → at ≡ Yv12 l u v → GathersBytes src l (l + 1) 2 n out → GathersLumas src at n out
  unfolding luma_step luma_gap is_packed_yuv
  yv12_lumas e g = subst (λ p. GathersLumas src p n out) (sym e) g

  pub nv12_lumas : {l w : ℕ} → at ≡ Nv12 l w → GathersBytes src l (l + 1) 2 n out → GathersLumas src at n out
  unfolding luma_step luma_gap is_packed_yuv
  nv12_lumas e g = subst (λ p. GathersLumas src p n out) (sym e) g

  pub yuy2_chromas : {m : ℕ} → at ≡ Yuy2 m → GathersBytes src (m + 1) (m + 1 + 2) 4 n out → GathersChromas src at n out
  unfolding chroma_step is_packed_yuv
  yuy2_chromas e g = subst (λ p. GathersChromas src p n out) (sym e) (gathered_at refl (omega arith) refl g)

  pub uyvy_chromas : {m : ℕ} → at ≡ Uyvy m → GathersBytes src (m + 0) (m + 0 + 2) 4 n out → GathersChromas src at n out
  unfolding chroma_step is_packed_yuv
  uyvy_chromas e g = subst (λ p. GathersChromas src p n out) (sym e) (gathered_at (omega arith) (omega arith) refl g)

  pub yv12_chromas : {l u v : ℕ} → at ≡ Yv12 l u v → GathersBytes src u v 1 n out → GathersChromas src at n out
  unfolding chroma_step is_packed_yuv
  yv12_chromas e g = subst (λ p. GathersChromas src p n out) (sym e) g

  pub nv12_chromas : {l w : ℕ} → at ≡ Nv12 l w → GathersBytes src w (w + 1) 2 n out → GathersChromas src at n out
  unfolding chroma_step is_packed_yuv
  nv12_chromas e g = subst (λ p. GathersChromas src p n out) (sym e) g
