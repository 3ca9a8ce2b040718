-- The rules in words: what stands at the place of each, what is wrong with it, and the section of T.800 that says so.
use Rattle.std.specs.Prelude.{ℕ, ◌==◌, nat_le, codes, if◌then◌else◌}
use Rattle.jx_messages.specs.Text.{Text}

pub record RuleRow : Type 0 where
  pub what : Text
  pub wrong : Text
  pub section : Text

unfoldable pub rule_row : Text → Text → Text → RuleRow
rule_row a b c = record { what = a; wrong = b; section = c }

-- 1 to 5, of segments as such, and of SIZ
unfoldable pub front_words : ℕ → RuleRow
front_words number =
    if number == 1 then rule_row (codes "a marker segment") (codes "it is cut short, its length is too small, or it runs past the file;\n    the file may be damaged or not whole") (codes "A.1, A.4") else
    if number == 2 then rule_row (codes "the next marker") (codes "these bytes are no marker that can stand in a header;\n    the file may be damaged") (codes "A.2") else
    if number == 3 then rule_row (codes "the SIZ segment") (codes "its length doesn't agree with its number of components\n    (38 bytes, and 3 for each of them)") (codes "A.5.1") else
    if number == 4 then rule_row (codes "the SIZ segment") (codes "the number of components, a bit depth, a sampling, a tile size or an\n    offset is out of range") (codes "A.5.1") else
    rule_row (codes "the SIZ segment") (codes "it asks for Part 2 or Part 15 of the standard, which this program\n    doesn't read") (codes "A.5.1")

-- 6 to 9, of COD, COC, QCD and QCC
unfoldable pub coding_words : ℕ → RuleRow
coding_words number =
    if number == 6 then rule_row (codes "a COD or COC segment") (codes "its length, progression order, layers, component transform, levels,\n    code-block size or wavelet is out of range") (codes "A.6.1, A.6.2") else
    if number == 7 then rule_row (codes "a COD or COC segment") (codes "its code-block style has a bit that Part 1 doesn't define, as in files\n    of Part 15 (HTJ2K)") (codes "A.6.1, Table A.19") else
    if number == 8 then rule_row (codes "a COD or COC segment") (codes "a precinct exponent above resolution 0, the lowest, is 0, and has to be\n    1 or more") (codes "A.6.1, Table A.21") else
    rule_row (codes "a QCD or QCC segment, or a tile that uses it,") (codes "the quantization style isn't defined, or some band has no step size") (codes "A.6.4, A.6.5")

-- 10 to 14, of other segments
unfoldable pub other_words : ℕ → RuleRow
other_words number =
    if number == 10 then rule_row (codes "an RGN segment") (codes "its length is wrong, or its style isn't 0, the only one in Part 1") (codes "A.6.3") else
    if number == 11 then rule_row (codes "a POC segment") (codes "a progression is empty, out of range, or not whole") (codes "A.6.6") else
    if number == 12 then rule_row (codes "a segment of one component") (codes "the picture has no such component") (codes "A.6.2, A.6.3, A.6.5") else
    if number == 13 then rule_row (codes "a PLT, PLM, TLM, PPM or PPT segment") (codes "it is too short") (codes "A.7") else
    rule_row (codes "a PPT segment") (codes "the main header has packed packet headers, a PPM segment") (codes "A.7.4, A.7.5")

-- 15 to 19, of headers
unfoldable pub header_words : ℕ → RuleRow
header_words number =
    if number == 15 then rule_row (codes "the beginning of the file") (codes "it is no JPEG 2000 codestream, which begins with the bytes FF 4F (SOC),\n    and no JP2 file, which begins with the signature box (jP)") (codes "A.4.1") else
    if number == 16 then rule_row (codes "the second marker") (codes "SIZ, the picture's size, has to follow SOC") (codes "A.5.1") else
    if number == 17 then rule_row (codes "the first SOT segment") (codes "the main header before it has no COD (coding style) or no QCD\n    (quantization)") (codes "A.3") else
    if number == 18 then rule_row (codes "a marker segment") (codes "its header has one of this kind, or of this kind and component, already") (codes "A.3") else
    rule_row (codes "a marker segment") (codes "it has no place in this header") (codes "A.3")

-- 20 to 25, of tile-parts
unfoldable pub part_words : ℕ → RuleRow
part_words number =
    if number == 20 then rule_row (codes "an SOT segment") (codes "the picture has no such tile") (codes "A.4.2") else
    if number == 21 then rule_row (codes "an SOT segment") (codes "its tile-part's number, or how many there are, disagrees with those\n    before it") (codes "A.4.2") else
    if number == 22 then rule_row (codes "an SOT segment") (codes "its tile-part's length is too small, or passes the file's end;\n    the file may be cut short") (codes "A.4.2") else
    if number == 23 then rule_row (codes "the end of a tile-part") (codes "no tile-part begins there, and the codestream doesn't end (no SOT, no\n    EOC); the file may be cut short") (codes "A.4.2, A.4.4") else
    if number == 24 then rule_row (codes "the end of the codestream (EOC)") (codes "some tile of the picture has no tile-part") (codes "A.4.2") else
    rule_row (codes "the tile's first SOT segment") (codes "the tile's progressions leave out one of its packets") (codes "A.6.6, B.12")

-- 26 to 31, of packets
unfoldable pub packet_words : ℕ → RuleRow
packet_words number =
    if number == 26 then rule_row (codes "a packet") (codes "its header ends too early, or has a bit or a length that no packet\n    header has; the file may be damaged") (codes "B.10.1") else
    if number == 27 then rule_row (codes "a packet") (codes "a code-block has more zero planes or coding passes than its band has\n    planes for") (codes "B.10.5, B.10.6") else
    if number == 28 then rule_row (codes "a packet") (codes "its bytes pass the end of the tile-part") (codes "B.10.7") else
    if number == 29 then rule_row (codes "an SOP segment") (codes "its length or its number isn't the packet's") (codes "A.8.1") else
    if number == 30 then rule_row (codes "the byte FF in a code-block's coded bytes") (codes "a byte above 8F follows, or none, which coded bytes never have;\n    the file may be damaged") (codes "C.2.3, B.10.7") else
    rule_row (codes "the data behind the tile's last packet") (codes "no packet is left for these bytes") (codes "B.9")

-- 32 to 36, of the boxes of JP2 files; 37, of packed packet headers
unfoldable pub box_words : ℕ → RuleRow
box_words number =
    if number == 32 then rule_row (codes "a box") (codes "fewer bytes are left than its head has (8, or 16 where LBox is 1);\n    the file may be cut short") (codes "I.4") else
    if number == 33 then rule_row (codes "a box") (codes "its length is less than its head's, or is 0, which says that the file\n    ends with it, and it stands in another box") (codes "I.4") else
    if number == 34 then rule_row (codes "a box") (codes "it is longer than what is left of the file, or of the box in which it\n    stands; the file may be cut short") (codes "I.4") else
    if number == 35 then rule_row (codes "the end of the file") (codes "none of its boxes has a codestream (jp2c)") (codes "I.5.4") else
    if number == 36 then rule_row (codes "the beginning of the file") (codes "it is no JP2 file, which begins with the signature box (jP)") (codes "I.5.1") else
    rule_row (codes "the packed packet headers (PPM)") (codes "they aren't a length and so many bytes for each tile-part of the file") (codes "A.7.4")

-- the sentence of each rule
unfoldable pub rule_words : ℕ → RuleRow
rule_words number =
    if nat_le number 5 then front_words number else
    if nat_le number 9 then coding_words number else
    if nat_le number 14 then other_words number else
    if nat_le number 19 then header_words number else
    if nat_le number 25 then part_words number else
    if nat_le number 31 then packet_words number else box_words number
