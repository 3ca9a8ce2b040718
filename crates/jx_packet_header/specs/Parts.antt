-- The parts of a block's passes in one packet (ITU-T T.800, B.10.7): they are cut after each pass that ends a segment.
use Rattle.std.specs.Prelude.{◌≡◌, ℕ, zero, suc, ◌+◌, ◌^◌, ◌<◌, Bool, List, [], ◌∷◌, ◌++◌, if◌then◌else◌}
use Rattle.jx_base.specs.Passes.{end_pass}
use Rattle.jx_tagtree.specs.Header.{low_bits}
use Rattle.jx_packet_header.specs.declared.HeaderPart.{HeaderPart}
use Rattle.jx_packet_header.specs.Words.{log2}

abbrev pub one_more : List ℕ → List ℕ
one_more [] = 1 ∷ []
one_more (run ∷ runs) = suc run ∷ runs

-- how many passes each part has: n passes from a first one on, cut after each pass that ends a segment
abbrev pub cut : ℕ → ℕ → ℕ → List ℕ
cut style first zero = []
cut style first (suc n) = if end_pass style first then 1 ∷ cut style (first + 1) n else one_more (cut style (first + 1) n)

-- how many bits the length of a part takes
abbrev pub width : ℕ → ℕ → ℕ
width lblock passes = lblock + log2 passes

-- a part of a block, from a pass on, whose length takes its bits
pub record IsHeaderPart (lblock block first passes : ℕ) (p : HeaderPart) : Type 0 where
  pub of : p.block ≡ block
  pub begins : p.first ≡ first
  pub has : p.passes ≡ passes
  pub fits : p.length < 2 ^ width lblock passes
  pub short : p.length < 2 ^ 32

-- the parts of a block, from a pass on, with these numbers of passes
abbrev pub AreHeaderParts : ℕ → ℕ → ℕ → List ℕ → List HeaderPart → Type 0
AreHeaderParts lblock block first [] [] = Unit {0}
AreHeaderParts lblock block first [] (p ∷ ps) = ⊥
AreHeaderParts lblock block first (run ∷ runs) [] = ⊥
AreHeaderParts lblock block first (run ∷ runs) (p ∷ ps) = IsHeaderPart lblock block first run p × AreHeaderParts lblock block (first + run) runs ps

-- the bits of their lengths
abbrev pub length_bits : ℕ → List HeaderPart → List Bool
length_bits lblock [] = []
length_bits lblock (p ∷ ps) = low_bits (width lblock p.passes) p.length ++ length_bits lblock ps
