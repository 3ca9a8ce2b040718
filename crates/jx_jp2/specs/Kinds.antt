-- The types of boxes that matter here, each by its four characters (ITU-T T.800, Table I.2, unless another is named).
use Rattle.std.specs.Prelude.{ℕ}

-- ftyp: the file type (I.5.2)
abbrev pub ftyp : ℕ
ftyp = 0x6674_7970

-- jp2c: a contiguous codestream (I.5.4)
abbrev pub jp2c : ℕ
jp2c = 0x6A70_3263

-- jp2h: the header, a superbox (I.5.3)
abbrev pub jp2h : ℕ
jp2h = 0x6A70_3268

-- res, with a space at its end: the resolution, a superbox in the header (I.5.3.7)
abbrev pub res : ℕ
res = 0x7265_7320

-- uinf: what UUIDs of the file stand for, a superbox (I.7.3)
abbrev pub uinf : ℕ
uinf = 0x7569_6E66

-- ftbl: a fragment table (ITU-T T.801, Annex M)
abbrev pub ftbl : ℕ
ftbl = 0x6674_626C

-- flst: a list of fragments (T.801, Annex M)
abbrev pub flst : ℕ
flst = 0x666C_7374

-- cref: a cross-reference (T.801, Annex M)
abbrev pub cref : ℕ
cref = 0x6372_6566

-- chck: a digital signature of a part of the file (T.801, Annex M)
abbrev pub chck : ℕ
chck = 0x6368_636B

-- pagt: a table of pages (ITU-T T.805)
abbrev pub pagt : ℕ
pagt = 0x7061_6774

-- fidx: an index of the file (ITU-T T.808, Annex I)
abbrev pub fidx : ℕ
fidx = 0x6669_6478

-- cidx: an index of a codestream (T.808, Annex I)
abbrev pub cidx : ℕ
cidx = 0x6369_6478

-- iptr: where the index of the file is (T.808, Annex I)
abbrev pub iptr : ℕ
iptr = 0x6970_7472
