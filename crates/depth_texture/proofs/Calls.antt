-- What unpacking and packing owe where they are accepted. Assumes nothing.
use Rattle.std.proofs.Common.{◌≡◌, sym, subst, List, ℕ, length}
use Rattle.words.proofs.LittleLaws.{small_list}
use Rattle.formats.specs.Table.{bytes_of}
use Rattle.depth_texture.specs.declared.PlaneLayout.{PlaneLayout}
use Rattle.depth_texture.specs.Pixels.{KeepsAll}
use Rattle.depth_texture.specs.Replies.{refusal_of}
use Rattle.depth_texture.proofs.Refusals.{accepts}
use Rattle.depth_texture.specs.Planes.{depth_plane, stencil_plane, packed_pixels, unpacked_depth, unpacked_stencil, packed_buffer}
use Rattle.depth_texture.specs.Promises.{Bytewise, Restores, SameElsewhere, PlanesKept, NearestCodes}
use Rattle.depth_texture.proofs.RoundTrip.{stencil_small, unpacked_accepted, packed_accepted, round_trip, nearest_packed, planes_kept, packed_kept}

module _ (f : ℕ) (l : PlaneLayout) (packed : List ℕ) (pitch : ℕ) (depth stencil : List ℕ) where
  abbrev refusal : ℕ
  refusal = refusal_of f l (length packed) pitch (length depth) (length stencil)

  -- both planes after unpacking, and what they keep
  abbrev depth_after : List ℕ
  depth_after = unpacked_depth f l packed pitch depth stencil

  abbrev stencil_after : List ℕ
  stencil_after = unpacked_stencil f l packed pitch depth stencil

  abbrev Keeps : List ℕ → List ℕ → Type 0
  Keeps D S = PlanesKept f l depth D stencil S

  -- the clauses of `unpack`, for the reply's number n and the planes D and S at exit
  abbrev pub Unpacked : ℕ → List ℕ → List ℕ → Type 0
  Unpacked n D S = record {
    reply : n ≡ refusal;
    depth : D ≡ depth_after;
    stencil : S ≡ stencil_after;
    restores : n ≡ 0 → KeepsAll f → Restores f l packed pitch D S;
    kept : Keeps D S;
  }

  pub unpack_accepted : refusal ≡ 0 → Bytewise packed → (D S : List ℕ) → D ≡ depth_plane f l packed pitch depth → S ≡ stencil_plane f l packed pitch stencil → Unpacked 0 D S
  unpack_accepted e small D S d s =
      subst (λ D. Unpacked 0 D S) (sym d)
      (subst (λ S. Unpacked 0 (depth_plane f l packed pitch depth) S) (sym s) record {
        reply = sym e;
        depth = (unpacked_accepted f l packed pitch depth stencil e).0;
        stencil = (unpacked_accepted f l packed pitch depth stencil e).1;
        restores = λ z k. round_trip f l packed pitch depth stencil (accepts f l (length packed) pitch (length depth) (length stencil) e) k (small_list packed (λ i h. small i));
        kept = planes_kept f l packed pitch depth stencil;
      })

  -- the clauses of `pack`, for the reply's number n and the packed buffer P at exit
  abbrev pub Packed : ℕ → List ℕ → Type 0
  Packed n P = record {
    reply : n ≡ refusal;
    bytes : P ≡ packed_buffer f l depth stencil packed pitch;
    nearest : n ≡ 0 → NearestCodes f l depth P pitch;
    kept : SameElsewhere pitch (bytes_of f) l.width l.height packed P;
  }

  pub pack_accepted : refusal ≡ 0 → Bytewise stencil → (P : List ℕ) → P ≡ packed_pixels f l depth stencil pitch packed → Packed 0 P
  pack_accepted e small P p =
      subst (Packed 0) (sym p) record {
        reply = sym e;
        bytes = packed_accepted f l packed pitch depth stencil e;
        nearest = λ z x y xl yl. nearest_packed f l depth stencil packed pitch (accepts f l (length packed) pitch (length depth) (length stencil) e) x y xl yl (stencil_small f stencil small _);
        kept = packed_kept f l depth stencil packed pitch;
      }
