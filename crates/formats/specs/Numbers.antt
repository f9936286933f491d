-- The lanes as numbers, to be read beside Microsoft's page: for each format its bytes, then each lane with its lowest bit and its width.
-- Assumes nothing.
use Rattle.std.specs.Prelude.{List, [], ◌∷◌, ℕ, ◌/◌}
use Rattle.formats.specs.Lanes.{Channel, red, green, blue, alpha, luminance, depth, stencil, padding, Kind, unsigned, signed, float16, float32, ignored, Lane, nowhere, at, find, bits}
use Rattle.formats.specs.Table.{Format}

-- a channel with its lowest bit, its width and its kind
pub record Placed : Type 0 where
  pub channel : Channel
  pub low : ℕ
  pub width : ℕ
  pub kind : Kind

-- one lane more, where it is there
abbrev put : Channel → Lane → List Placed → List Placed
put c nowhere ps = ps
put c (at low n k) ps = record { channel = c; low = low; width = n; kind = k } ∷ ps

-- the lanes of a format, in the order in which the channels are listed
abbrev placed : Format → List Placed
placed f =
    let ps = f.parts in
    put red (find red ps) (put green (find green ps) (put blue (find blue ps) (put alpha (find alpha ps)
    (put luminance (find luminance ps) (put depth (find depth ps) (put stencil (find stencil ps) (put padding (find padding ps) [])))))))

-- a format's code, the bytes of a texel and its lanes
pub record Row : Type 0 where
  pub code : ℕ
  pub bytes : ℕ
  pub lanes : List Placed

abbrev row_of : Format → Row
row_of f = record { code = f.code; bytes = bits f.parts / 8; lanes = placed f }

abbrev pub rows_of : List Format → List Row
rows_of [] = []
rows_of (f ∷ fs) = row_of f ∷ rows_of fs

abbrev row : ℕ → ℕ → List Placed → Row
row f n ls = record { code = f; bytes = n; lanes = ls }

abbrev r : ℕ → ℕ → Placed
r low n = record { channel = red; low = low; width = n; kind = unsigned }

abbrev g : ℕ → ℕ → Placed
g low n = record { channel = green; low = low; width = n; kind = unsigned }

abbrev b : ℕ → ℕ → Placed
b low n = record { channel = blue; low = low; width = n; kind = unsigned }

abbrev a : ℕ → ℕ → Placed
a low n = record { channel = alpha; low = low; width = n; kind = unsigned }

abbrev l : ℕ → ℕ → Placed
l low n = record { channel = luminance; low = low; width = n; kind = unsigned }

abbrev d : ℕ → ℕ → Placed
d low n = record { channel = depth; low = low; width = n; kind = unsigned }

abbrev s : ℕ → ℕ → Placed
s low n = record { channel = stencil; low = low; width = n; kind = unsigned }

abbrev x : ℕ → ℕ → Placed
x low n = record { channel = padding; low = low; width = n; kind = ignored }

-- a lane of another kind
abbrev of_kind : Kind → Placed → Placed
of_kind k p = record { channel = p.channel; low = p.low; width = p.width; kind = k }

-- the table in numbers
abbrev pub numbered : List Row
numbered =
    row 20 3 (r 16 8 ∷ g 8 8 ∷ b 0 8 ∷ [])
    ∷ row 21 4 (r 16 8 ∷ g 8 8 ∷ b 0 8 ∷ a 24 8 ∷ [])
    ∷ row 22 4 (r 16 8 ∷ g 8 8 ∷ b 0 8 ∷ x 24 8 ∷ [])
    ∷ row 23 2 (r 11 5 ∷ g 5 6 ∷ b 0 5 ∷ [])
    ∷ row 24 2 (r 10 5 ∷ g 5 5 ∷ b 0 5 ∷ x 15 1 ∷ [])
    ∷ row 25 2 (r 10 5 ∷ g 5 5 ∷ b 0 5 ∷ a 15 1 ∷ [])
    ∷ row 26 2 (r 8 4 ∷ g 4 4 ∷ b 0 4 ∷ a 12 4 ∷ [])
    ∷ row 28 1 (a 0 8 ∷ [])
    ∷ row 31 4 (r 0 10 ∷ g 10 10 ∷ b 20 10 ∷ a 30 2 ∷ [])
    ∷ row 32 4 (r 0 8 ∷ g 8 8 ∷ b 16 8 ∷ a 24 8 ∷ [])
    ∷ row 33 4 (r 0 8 ∷ g 8 8 ∷ b 16 8 ∷ x 24 8 ∷ [])
    ∷ row 34 4 (r 0 16 ∷ g 16 16 ∷ [])
    ∷ row 35 4 (r 20 10 ∷ g 10 10 ∷ b 0 10 ∷ a 30 2 ∷ [])
    ∷ row 36 8 (r 0 16 ∷ g 16 16 ∷ b 32 16 ∷ a 48 16 ∷ [])
    ∷ row 50 1 (l 0 8 ∷ [])
    ∷ row 51 2 (a 8 8 ∷ l 0 8 ∷ [])
    ∷ row 60 2 (of_kind signed (r 0 8) ∷ of_kind signed (g 8 8) ∷ [])
    ∷ row 63 4 (of_kind signed (r 0 8) ∷ of_kind signed (g 8 8) ∷ of_kind signed (b 16 8) ∷ of_kind signed (a 24 8) ∷ [])
    ∷ row 64 4 (of_kind signed (r 0 16) ∷ of_kind signed (g 16 16) ∷ [])
    ∷ row 75 4 (d 8 24 ∷ s 0 8 ∷ [])
    ∷ row 77 4 (d 0 24 ∷ x 24 8 ∷ [])
    ∷ row 80 2 (d 0 16 ∷ [])
    ∷ row 81 2 (l 0 16 ∷ [])
    ∷ row 110 8 (of_kind signed (r 0 16) ∷ of_kind signed (g 16 16) ∷ of_kind signed (b 32 16) ∷ of_kind signed (a 48 16) ∷ [])
    ∷ row 111 2 (of_kind float16 (r 0 16) ∷ [])
    ∷ row 112 4 (of_kind float16 (r 0 16) ∷ of_kind float16 (g 16 16) ∷ [])
    ∷ row 113 8 (of_kind float16 (r 0 16) ∷ of_kind float16 (g 16 16) ∷ of_kind float16 (b 32 16) ∷ of_kind float16 (a 48 16) ∷ [])
    ∷ row 114 4 (of_kind float32 (r 0 32) ∷ [])
    ∷ row 115 8 (of_kind float32 (r 0 32) ∷ of_kind float32 (g 32 32) ∷ [])
    ∷ row 116 16 (of_kind float32 (r 0 32) ∷ of_kind float32 (g 32 32) ∷ of_kind float32 (b 64 32) ∷ of_kind float32 (a 96 32) ∷ [])
    ∷ []
