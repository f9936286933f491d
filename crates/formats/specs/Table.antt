-- THE LANE TABLE: each format by the letters of its D3DFORMAT name. Assumes nothing.
use Rattle.std.specs.Prelude.{◌≡◌, true, false, List, [], ◌∷◌, ◌⊎◌, ℕ, ◌+◌, ◌*◌, ◌/◌, ◌≤◌, eqb}
use Rattle.formats.specs.Codes.{R8G8B8, A8R8G8B8, X8R8G8B8, R5G6B5, X1R5G5B5, A1R5G5B5, A4R4G4B4, A8, A2B10G10R10, A8B8G8R8, X8B8G8R8, G16R16, A2R10G10B10, A16B16G16R16, L8, A8L8, V8U8, Q8W8V8U8, V16U16, D24S8, D24X8, D16, L16, Q16W16V16U16, R16F, G16R16F, A16B16G16R16F, R32F, G32R32F, A32B32G32R32F}
use Rattle.formats.specs.Lanes.{Channel, red, green, blue, alpha, luminance, depth, stencil, padding, Kind, unsigned, signed, float16, float32, ignored, Part, Lane, nowhere, at, bits, find}

-- ---- the letters of the names
abbrev part : Channel → Kind → ℕ → Part
part c k n = record { channel = c; kind = k; width = n }

abbrev R : ℕ → Part
R = part red unsigned

abbrev G : ℕ → Part
G = part green unsigned

abbrev B : ℕ → Part
B = part blue unsigned

abbrev A : ℕ → Part
A = part alpha unsigned

abbrev L : ℕ → Part
L = part luminance unsigned

abbrev D : ℕ → Part
D = part depth unsigned

abbrev S : ℕ → Part
S = part stencil unsigned

abbrev X : ℕ → Part
X = part padding ignored

-- U, V, W, Q are red, green, blue, alpha with a sign
abbrev U : ℕ → Part
U = part red signed

abbrev «V» : ℕ → Part
«V» = part green signed

abbrev W : ℕ → Part
W = part blue signed

abbrev Q : ℕ → Part
Q = part alpha signed

-- a name that ends in F has binary16 or binary32 lanes
abbrev half : Channel → Part
half c = part c float16 16

abbrev single : Channel → Part
single c = part c float32 32

pub record Format : Type 0 where
  pub code : ℕ
  pub parts : List Part

abbrev is : ℕ → List Part → Format
is f ps = record { code = f; parts = ps }

-- D3DFORMAT's names, lanes from the top bit down. D24X8 alone has the code below the X byte, against its name.
abbrev pub formats : List Format
formats =
    is R8G8B8 (R 8 ∷ G 8 ∷ B 8 ∷ [])
    ∷ is A8R8G8B8 (A 8 ∷ R 8 ∷ G 8 ∷ B 8 ∷ [])
    ∷ is X8R8G8B8 (X 8 ∷ R 8 ∷ G 8 ∷ B 8 ∷ [])
    ∷ is R5G6B5 (R 5 ∷ G 6 ∷ B 5 ∷ [])
    ∷ is X1R5G5B5 (X 1 ∷ R 5 ∷ G 5 ∷ B 5 ∷ [])
    ∷ is A1R5G5B5 (A 1 ∷ R 5 ∷ G 5 ∷ B 5 ∷ [])
    ∷ is A4R4G4B4 (A 4 ∷ R 4 ∷ G 4 ∷ B 4 ∷ [])
    ∷ is A8 (A 8 ∷ [])
    ∷ is A2B10G10R10 (A 2 ∷ B 10 ∷ G 10 ∷ R 10 ∷ [])
    ∷ is A8B8G8R8 (A 8 ∷ B 8 ∷ G 8 ∷ R 8 ∷ [])
    ∷ is X8B8G8R8 (X 8 ∷ B 8 ∷ G 8 ∷ R 8 ∷ [])
    ∷ is G16R16 (G 16 ∷ R 16 ∷ [])
    ∷ is A2R10G10B10 (A 2 ∷ R 10 ∷ G 10 ∷ B 10 ∷ [])
    ∷ is A16B16G16R16 (A 16 ∷ B 16 ∷ G 16 ∷ R 16 ∷ [])
    ∷ is L8 (L 8 ∷ [])
    ∷ is A8L8 (A 8 ∷ L 8 ∷ [])
    ∷ is V8U8 («V» 8 ∷ U 8 ∷ [])
    ∷ is Q8W8V8U8 (Q 8 ∷ W 8 ∷ «V» 8 ∷ U 8 ∷ [])
    ∷ is V16U16 («V» 16 ∷ U 16 ∷ [])
    ∷ is D24S8 (D 24 ∷ S 8 ∷ [])
    ∷ is D24X8 (X 8 ∷ D 24 ∷ [])
    ∷ is D16 (D 16 ∷ [])
    ∷ is L16 (L 16 ∷ [])
    ∷ is Q16W16V16U16 (Q 16 ∷ W 16 ∷ «V» 16 ∷ U 16 ∷ [])
    ∷ is R16F (half red ∷ [])
    ∷ is G16R16F (half green ∷ half red ∷ [])
    ∷ is A16B16G16R16F (half alpha ∷ half blue ∷ half green ∷ half red ∷ [])
    ∷ is R32F (single red ∷ [])
    ∷ is G32R32F (single green ∷ single red ∷ [])
    ∷ is A32B32G32R32F (single alpha ∷ single blue ∷ single green ∷ single red ∷ [])
    ∷ []

abbrev pub lookup : ℕ → List Format → List Part
lookup f [] = []
lookup f (n ∷ ns) = elim (eqb f n.code) [ true ↦ n.parts | false ↦ lookup f ns ]

-- the parts of the format with the code f; none for a code that is not in the table
unfoldable pub parts_of : ℕ → List Part
parts_of f = lookup f formats

-- the lane of a channel in the format with the code f
unfoldable pub lane_of : ℕ → Channel → Lane
lane_of f c = find c (parts_of f)

-- how many bytes a texel has; 0 for a code that is not in the table
unfoldable pub bytes_of : ℕ → ℕ
bytes_of f = bits (parts_of f) / 8

-- ---- where a lane ends, and how wide it is
-- the bit above a lane; 0 where there is none
abbrev pub end_of : Lane → ℕ
end_of nowhere = 0
end_of (at low n k) = low + n

abbrev pub width_of : Lane → ℕ
width_of nowhere = 0
width_of (at low n k) = n

-- two lanes share no bit
abbrev pub Apart : Lane → Lane → Type 0
Apart nowhere m = Unit {0}
Apart (at low n k) nowhere = Unit {0}
Apart (at low n k) (at low' n' k') = (low + n ≤ low') ⊎ (low' + n' ≤ low)

-- the widths of a list's lanes together
abbrev pub lane_bits : List Part → ℕ
lane_bits ps =
    width_of (find red ps) + width_of (find green ps) + width_of (find blue ps) + width_of (find alpha ps)
    + width_of (find luminance ps) + width_of (find depth ps) + width_of (find stencil ps) + width_of (find padding ps)

-- the lanes of a format share no bit and fill its bytes exactly
pub record Filled (ps : List Part) : Type 0 where
  pub whole_bytes : bits ps ≡ bits ps / 8 * 8
  pub inside : (c : Channel) → end_of (find c ps) ≤ bits ps
  pub apart : (c d : Channel) → (c ≡ d → ⊥) → Apart (find c ps) (find d ps)
  pub all_bits : lane_bits ps ≡ bits ps
