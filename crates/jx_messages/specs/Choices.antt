-- The choices in words, with the place and the value of the option that each is about.
use Rattle.std.specs.Prelude.{ℕ, ◌==◌, ◌++◌, codes, if◌then◌else◌}
use Rattle.std.specs.Fmt.{decimal}
use Rattle.jx_messages.specs.Profile.{profile_words}
use Rattle.jx_messages.specs.Text.{Text}

-- where a choice about headers stands
unfoldable pub header_words : ℕ → Text
header_words place = if place == 0 then codes "the main header or tile 0" else codes "tile " ++ decimal place

-- another vertically causal bit
abbrev pub causal_words : ℕ → Text → Text
causal_words place value =
    codes "jx: --style " ++ (value ++ (codes " would turn causal on or off for code-block " ++ (decimal place ++ codes ",\n    whose coding passes end within a bit-plane, where that can't be done:\n    add or drop causal, or use --style keep\n    (T.800 D.7; choice 1)\n")))

-- other sizes of code-blocks
abbrev pub size_words : ℕ → Text → Text
size_words place value =
    codes "jx: --precincts " ++ (value ++ (codes " would change the size of code-blocks\n    in tile " ++ (decimal place ++ codes ", and with it the coded bytes: use keep, or\n    the input's own exponents where its precincts cut its code-blocks, and\n    elsewhere such as don't cut them (T.800 B.7; choice 2)\n")))

-- what can be had at the first component and resolution at which sizes would be others: the exponents that the input has there
unfoldable pub own_words : ℕ → ℕ → ℕ → ℕ → Text
own_words comp res across down =
    codes "resolution " ++ (decimal res ++ (codes "\n    of component " ++ (decimal comp ++ (codes ": use the input's own " ++ (decimal across ++ (codes "x" ++ (decimal down ++ codes " there, or keep for all;")))))))

-- other sizes of code-blocks, with what can be had
abbrev pub misfit_words : ℕ → Text → Text → Text
misfit_words place own value =
    codes "jx: --precincts " ++ (value ++ (codes " would change the size of code-blocks\n    in tile " ++ (decimal place ++ (codes ", and with it the coded bytes, first at " ++ (own ++ codes "\n    others fit where neither cuts a code-block (T.800 B.7; choice 2)\n")))))

-- an exponent 0, in some header
abbrev pub zero_words : Text → Text → Text
zero_words header value =
    codes "jx: --precincts " ++ (value ++ (codes " would give " ++ (header ++ codes "\n    an exponent 0 above resolution 0, the lowest:\n    use 1 or more behind the first item\n    (T.800 A.6.1, Table A.21; choice 3)\n")))

-- too many coding passes in a layer
abbrev pub crowded_words : ℕ → Text → Text
crowded_words place value =
    codes "jx: --layers " ++ (value ++ (codes " would put over 164 coding passes\n    of code-block " ++ (decimal place ++ codes " into one layer, more than a packet header can tell:\n    use more layers, as in --layers planes:8 (T.800 B.10.6; choice 4)\n")))

-- too many tile-parts
abbrev pub cut_words : ℕ → Text → Text
cut_words place value =
    codes "jx: --tile-parts " ++ (value ++ (codes " would cut tile " ++ (decimal place ++ codes " into over 255 tile-parts:\n    use another --order, another --tile-parts, or none\n    (T.800 A.4.2; choice 5)\n")))

-- no rule for layers
abbrev pub no_rule_words : Text → Text
no_rule_words value =
    codes "jx: --layers " ++ (value ++ codes " is no rule for layers: use keep, one,\n    cuts:N,N.. with 1 to 32 rising passes from 1 to 220,\n    or planes:N with N from 1 to 74 (choice 6)\n")

-- a tile-part that would be too long
abbrev pub long_words : ℕ → Text
long_words place =
    codes "jx: a tile-part of tile " ++ (decimal place ++ codes " would have 4 GiB or more:\n    cut the tile by --tile-parts r, l or c (T.800 A.4.2; choice 7)\n")

-- a subsampling factor that would be too large
abbrev pub factor_words : ℕ → Text → Text
factor_words place value =
    codes "jx: --reduce " ++ (value ++ (codes " would give component " ++ (decimal place ++ codes "\n    a subsampling factor over 255: use a smaller number\n    (T.800 A.5.1, Table A.9; choice 8)\n")))

-- more resolutions than some header has above the lowest
abbrev pub levels_words : Text → Text → Text
levels_words header value =
    codes "jx: --reduce " ++ (value ++ (codes " would leave out more resolutions than " ++ (header ++ codes "\n    has above the lowest: use a smaller number\n    (T.800 A.6.1, Table A.15; choice 9)\n")))

-- more tile-parts than TLM can name
abbrev pub entries_words : Text → Text
entries_words value =
    codes "jx: --tile-parts " ++ (value ++ codes " would cut the tiles into over 2795776\n    tile-parts in all, more than --tlm can name: use another --tile-parts, or\n    none, or leave out --tlm (T.800 A.7.1; choice 10)\n")

-- packets that no volume has
abbrev pub stray_words : ℕ → Text → Text
stray_words place value =
    codes "jx: --poc " ++ (value ++ (codes " has no volume for some packet of tile " ++ (decimal place ++ codes ",\n    has a volume that begins above the components, or keeps more entries than\n    a POC segment holds: end with a volume of all, as 0,0,65535,33,16384,rpcl,\n    or use --poc none (T.800 A.6.6; choice 12)\n")))

-- the sentence of each choice
unfoldable pub choice_words : ℕ → ℕ → Text → Text
choice_words number place value =
    if number == 1 then causal_words place value else
    if number == 2 then size_words place value else
    if number == 3 then zero_words (header_words place) value else
    if number == 4 then crowded_words place value else
    if number == 5 then cut_words place value else
    if number == 6 then no_rule_words value else
    if number == 7 then long_words place else
    if number == 8 then factor_words place value else
    if number == 9 then levels_words (header_words place) value else
    if number == 10 then entries_words value else
    if number == 12 then stray_words place value else profile_words place

-- the option that each choice is about
unfoldable pub option_words : ℕ → Text
option_words number =
    if number == 1 then codes "--style" else
    if number == 2 then codes "--precincts" else
    if number == 3 then codes "--precincts" else
    if number == 4 then codes "--layers" else
    if number == 5 then codes "--tile-parts" else
    if number == 6 then codes "--layers" else
    if number == 7 then codes "--tile-parts" else
    if number == 8 then codes "--reduce" else
    if number == 9 then codes "--reduce" else
    if number == 10 then codes "--tile-parts" else
    if number == 12 then codes "--poc" else codes "--rsiz"
