-- The codes of Microsoft's D3DFORMAT, under its names.
-- Assumes nothing.
use Rattle.std.specs.Prelude.{ℕ, ◌+◌, ◌*◌}

abbrev pub R8G8B8 : ℕ
R8G8B8 = 20

abbrev pub A8R8G8B8 : ℕ
A8R8G8B8 = 21

abbrev pub X8R8G8B8 : ℕ
X8R8G8B8 = 22

abbrev pub R5G6B5 : ℕ
R5G6B5 = 23

abbrev pub X1R5G5B5 : ℕ
X1R5G5B5 = 24

abbrev pub A1R5G5B5 : ℕ
A1R5G5B5 = 25

abbrev pub A4R4G4B4 : ℕ
A4R4G4B4 = 26

abbrev pub A8 : ℕ
A8 = 28

abbrev pub A2B10G10R10 : ℕ
A2B10G10R10 = 31

abbrev pub A8B8G8R8 : ℕ
A8B8G8R8 = 32

abbrev pub X8B8G8R8 : ℕ
X8B8G8R8 = 33

abbrev pub G16R16 : ℕ
G16R16 = 34

abbrev pub A2R10G10B10 : ℕ
A2R10G10B10 = 35

abbrev pub A16B16G16R16 : ℕ
A16B16G16R16 = 36

abbrev pub L8 : ℕ
L8 = 50

abbrev pub A8L8 : ℕ
A8L8 = 51

abbrev pub V8U8 : ℕ
V8U8 = 60

abbrev pub Q8W8V8U8 : ℕ
Q8W8V8U8 = 63

abbrev pub V16U16 : ℕ
V16U16 = 64

abbrev pub D24S8 : ℕ
D24S8 = 75

abbrev pub D24X8 : ℕ
D24X8 = 77

abbrev pub D16 : ℕ
D16 = 80

abbrev pub L16 : ℕ
L16 = 81

abbrev pub Q16W16V16U16 : ℕ
Q16W16V16U16 = 110

abbrev pub R16F : ℕ
R16F = 111

abbrev pub G16R16F : ℕ
G16R16F = 112

abbrev pub A16B16G16R16F : ℕ
A16B16G16R16F = 113

abbrev pub R32F : ℕ
R32F = 114

abbrev pub G32R32F : ℕ
G32R32F = 115

abbrev pub A32B32G32R32F : ℕ
A32B32G32R32F = 116

-- a code of four ASCII letters, the first letter lowest
abbrev pub letters : ℕ → ℕ → ℕ → ℕ → ℕ
letters a b c d = a + 256 * (b + 256 * (c + 256 * d))

-- 'Y' 'U' 'Y' '2'
abbrev pub YUY2 : ℕ
YUY2 = letters 0x59 0x55 0x59 0x32

-- 'U' 'Y' 'V' 'Y'
abbrev pub UYVY : ℕ
UYVY = letters 0x55 0x59 0x56 0x59

-- 'Y' 'V' '1' '2'
abbrev pub YV12 : ℕ
YV12 = letters 0x59 0x56 0x31 0x32

-- 'N' 'V' '1' '2'
abbrev pub NV12 : ℕ
NV12 = letters 0x4e 0x56 0x31 0x32
