-- Offsets carried along a row, from where its first texels start. Assumes nothing.
use Rattle.std.specs.Prelude.{◌≡◌, true, List, ℕ, ◌+◌, ◌*◌, ◌^◌, ◌≤◌, ◌<◌, length, ℤ, pos}
use Rattle.std.specs.Int.{w64, FitsUnsigned}
use Rattle.std.proofs.Common.{rules, ap, sym, ◌∙◌, subst, zero-add, mul-le-mul_right, arith}
use Rattle.formats.specs.Table.{bytes_of}
use Rattle.formats.specs.Classes.{is_lane_source}
use Rattle.texels.specs.Steps.{carried_to}
use Rattle.texels.proofs.StepsLaws.{carried_is}
use Rattle.places.proofs.InsideLaws.{ends_fit}
use Rattle.stretch_rect.specs.Sets.{bt601}
use Rattle.regions.specs.declared.reply.ConvertRegion.{ConvertRegion}
use Rattle.regions.specs.RowOffsets.{CarriesOffsets}
use Rattle.regions.proofs.RowOffsetsLaws.{carried_on, from_at, source_ends, row_read, row_write}
use Rattle.regions.specs.Regions.{to_at}
use Rattle.regions.specs.Rows.{RowFits}
use Rattle.pixel_convert.specs.Along.{OffsetsFit, CarriesAlong}

-- k texels on from the first ones
on : (s d : ℕ) (r : ConvertRegion) (z row from to : ℕ) → CarriesOffsets s d r z row 0 from to → (col : ℕ)
    → CarriesOffsets s d r z row col (from + col * bytes_of s) (to + col * bytes_of d)
on s d r z row from to c col =
    subst (λ k. CarriesOffsets s d r z row k (from + col * bytes_of s) (to + col * bytes_of d)) (zero-add col)
    (carried_on s d r z row 0 from to col c)

-- an offset that is a place of 64 bits has no more
fits_64 : (off : ℕ) (p : ℤ) → pos off ≡ p → FitsUnsigned w64 p → off < 2 ^ 64
fits_64 off p e h = let i : FitsUnsigned w64 (pos off) = subst (FitsUnsigned w64) (sym e) h in search rules

pub carried_along : (s d : ℕ) (r : ConvertRegion) (z row from to : ℕ) → OffsetsFit s d r z row → CarriesOffsets s d r z row 0 from to
    → CarriesAlong s d r z row from to
carried_along s d r z row from to fit c = record {
  afresh = λ col h. record {
    source = ap pos (carried_is from (bytes_of s) col) ∙ (on s d r z row from to c col).source;
    destination = ap pos (carried_is to (bytes_of d) col) ∙ (on s d r z row from to c col).destination;
  };
  in_64_bits = λ col h. (
    fits_64 _ _ (ap pos (carried_is from (bytes_of s) col) ∙ (on s d r z row from to c col).source) (fit.source col h),
    fits_64 _ _ (ap pos (carried_is to (bytes_of d) col) ∙ (on s d r z row from to c col).destination) (fit.destination col h),
  );
}

-- the first ones
pub at_first : (s d : ℕ) (r : ConvertRegion) (z row from to : ℕ) → CarriesAlong s d r z row from to → CarriesOffsets s d r z row 0 from to
at_first s d r z row from to c =
    let e : carried_to from (bytes_of s) 0 ≡ from = carried_is from (bytes_of s) 0 ∙ omega arith in
    let g : carried_to to (bytes_of d) 0 ≡ to = carried_is to (bytes_of d) 0 ∙ omega arith in
    record { source = sym (ap pos e) ∙ (c.afresh 0 (omega arith)).source; destination = sym (ap pos g) ∙ (c.afresh 0 (omega arith)).destination }

-- a row that lies within its buffers has such offsets
module _ (src : List ℕ) (m s d : ℕ) (r : ConvertRegion) (z row : ℕ) (fits : RowFits (length src) m s d r z row) (lane : is_lane_source s ≡ true) where
  abbrev from : ℕ
  from = from_at bt601 src m s d r z row fits lane 0

  abbrev to : ℕ
  to = to_at d r z row 0

  -- where its first texels start
  pub first_carries : CarriesOffsets s d r z row 0 from to
  first_carries = record { source = sym (source_ends bt601 src m s d r z row fits lane 0 fits.rows.0).place; destination = sym (fits.destination 0 fits.rows.0).place }

  pub offsets_fit : length src < 2 ^ 64 → m < 2 ^ 64 → OffsetsFit s d r z row
  offsets_fit n l = record {
    slices = (omega (arith, fits.slices.0, n), omega (arith, fits.slices.1, l));
    rows = (fits.rows.1, fits.rows.2);
    source = λ col h.
        let e = row_read bt601 src m s d r z row fits lane from to first_carries in
        let c : col * bytes_of s ≤ r.width * bytes_of s = mul-le-mul_right (bytes_of s) h in
        ends_fit (length src) 0 _ (from + col * bytes_of s) n (record { place = sym (on s d r z row from to first_carries col).source; end = omega (arith, e, c) });
    destination = λ col h.
        let e = row_write bt601 src m s d r z row fits lane from to first_carries in
        let c : col * bytes_of d ≤ r.width * bytes_of d = mul-le-mul_right (bytes_of d) h in
        ends_fit m 0 _ (to + col * bytes_of d) l (record { place = sym (on s d r z row from to first_carries col).destination; end = omega (arith, e, c) });
  }
