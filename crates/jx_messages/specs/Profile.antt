-- Why a profile can't be kept, in words, with what to ask instead: by the number of its condition that fails.
use Rattle.std.specs.Prelude.{ℕ, ◌==◌, nat_le, ◌++◌, codes, if◌then◌else◌}
use Rattle.jx_messages.specs.Text.{Text}

-- 1 to 6, of SIZ and of which segments there are
unfoldable pub picture_words : ℕ → Text
picture_words place =
    if place == 1 then codes "its picture is over 2048 by 1080,\n    or 4096 by 2160 for profile 4; that is the input's: use --rsiz zero" else
    if place == 2 then codes "its picture or its tiles have offsets;\n    that is the input's: use --rsiz zero" else
    if place == 3 then codes "it has more than one tile;\n    that is the input's: use --rsiz zero" else
    if place == 4 then codes "its components aren't three of 12 bits,\n    without a sign and without subsampling;\n    that is the input's, or comes of --reduce: use --rsiz zero" else
    if place == 5 then codes "it has a region of interest (RGN);\n    that is the input's: use --rsiz zero" else
    codes "its tile has a COD, COC, QCD or QCC of its own;\n    that is the input's: use --rsiz zero"

-- 7 to 14, of COD, COC, QCD and QCC
unfoldable pub coding_words : ℕ → Text
coding_words place =
    if place == 7 then codes "its code-blocks aren't 32 by 32;\n    that is the input's: use --rsiz zero" else
    if place == 8 then codes "its code-blocks have a style:\n    add --style none" else
    if place == 9 then codes "its precincts aren't 128 by 128\n    at the lowest resolution and 256 by 256 above: add --precincts 7x7,8x8" else
    if place == 10 then codes "its packets stand in another order:\n    add --order cprl, or for profile 4 and L levels\n    --poc 0,0,1,L,3,cprl/L,0,1,L+1,3,cprl" else
    if place == 11 then codes "it has more than one layer:\n    add --layers one" else
    if place == 12 then codes "its components don't have the same levels,\n    at most five, or one to six for profile 4;\n    that is the input's: use --rsiz zero" else
    if place == 13 then codes "its wavelet isn't the 9-7 one;\n    that is the input's: use --rsiz zero" else
    codes "it hasn't one guard bit, or two for profile 4;\n    that is the input's: use --rsiz zero"

-- 15 and 16, of what is written beside
unfoldable pub written_words : ℕ → Text
written_words place =
    if place == 15 then codes "it hasn't a tile-part for each component:\n    add --tile-parts c" else
    codes "it has no TLM segment:\n    add --tlm"

-- the sentence of each
unfoldable pub condition_words : ℕ → Text
condition_words place = if nat_le place 6 then picture_words place else if nat_le place 14 then coding_words place else written_words place

abbrev pub unmet_words : Text → Text
unmet_words condition =
    codes "jx: --rsiz keep: the input claims profile 3 or 4, 2K or 4K digital cinema, and\n    the file would break it: " ++ (condition ++ codes "\n    (T.800 A.5.1, Table A.10; choice 11)\n")

-- 0: a value whose conditions aren't known
unfoldable pub profile_words : ℕ → Text
profile_words place =
    if place == 0 then codes "jx: --rsiz keep: the input claims a profile other than 3 and 4, 2K and 4K\n    digital cinema, and jx doesn't know what others ask for: use --rsiz zero\n    (T.800 A.5.1, Table A.10; choice 11)\n" else unmet_words (condition_words place)
