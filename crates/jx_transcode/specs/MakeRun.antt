-- How a run of `make` ends: the generated codestream of a seed, a width and a height is transcoded in memory with fixed options, and one
-- line says how long both are.
use Rattle.std.specs.Prelude.{◌≡◌, ◌⊎◌, ℕ, ◌^◌, true, List, [], ◌++◌, length, Option, None, Some, codes}
use Rattle.std.specs.Fmt.{decimal}
use Rattle.std.specs.List.{sum}
use Rattle.jx_io.specs.Device.{Meaning}
use Rattle.jx_layers.specs.declared.StreamFacts.{StreamFacts}
use Rattle.jx_layers.specs.Rule.{Rule}
use Rattle.jx_generate.specs.Made.{file_made}
use Rattle.jx_options.specs.Names.{no_marks}
use Rattle.jx_options.specs.Wanted.{Wanted}
use Rattle.jx_options.specs.declared.PartChoice.TheVariants as parts
use Rattle.jx_options.specs.declared.RsizChoice.TheVariants as rsiz
use Rattle.jx_cli.specs.MakeWords.{Make}
use Rattle.jx_options.specs.Work.{Work}
use Rattle.jx_transcode.specs.Aims.{Aim}
use Rattle.jx_transcode.specs.Outcome.{IsChosen, IsLimited, IsVerdict, Says, Verdict, line_of}
use Rattle.jx_transcode.specs.Rewritten.{HasBlocks, IsKept, IsRewritten}
use Rattle.jx_transcode.specs.RunTapes.{IsRunTape, IsTapedAfter}
use Rattle.jx_transcode.specs.declared.status.Status.{Status}
use Rattle.jx_transcode.specs.declared.status.Status.TheVariants as status
use Rattle.jx_rounds.specs.declared.tape.TapeEntry.{TapeEntry}

-- what `--order rpcl --layers one --style bypass+segment --tile-parts r --plt` asks for (T.800, Tables A.16 and A.19)
abbrev pub wanted_made : Wanted
wanted_made = record {
  order = Some 2;
  changes = Some [];
  precincts = None;
  style = Some (record { bits = 33 });
  layers = codes "one";
  marks = record no_marks { plt = true; parts = parts.Resolution };
  rsiz = rsiz.Zero;
}

-- and `--threads 4 --window 64`
abbrev pub work_made : Work
work_made = record { threads = 4; window = 64; most = 2 ^ 28 }

-- with the rule that planners make of the word for layers; a generated codestream has at most as many bytes as an input may have where no words
-- say otherwise
abbrev pub aim_made : (List ℕ → StreamFacts → Option Rule) → Aim
aim_made rule = record { wanted = wanted_made; reduce = 0; limit = 2 ^ 28; rule = rule (codes "one") }

-- the generated codestream
abbrev pub input_of : Make → List ℕ
input_of m = file_made m.seed m.width m.height

-- the line that a status has: after Done with the count of code-blocks, the lengths of what was generated and of the output, and the
-- sum of the output's bytes
abbrev pub make_line : Status → ℕ → ℕ → ℕ → ℕ → List ℕ
make_line status.Done blocks before after total =
    codes "make: "
    ++ (decimal blocks ++ (codes " blocks, " ++ (decimal before ++ (codes " bytes in, " ++ (decimal after ++ (codes " bytes out, sum " ++ (decimal total ++ codes "\n")))))))
make_line status.Words blocks before after total = line_of status.Words blocks 0
make_line (status.Unlike how) blocks before after total = line_of (status.Unlike how) blocks 0
make_line (status.Rule number place) blocks before after total = line_of (status.Rule number place) blocks 0
make_line (status.Limit number found) blocks before after total = line_of (status.Limit number found) blocks 0
make_line (status.Choice number place) blocks before after total = line_of (status.Choice number place) blocks 0
make_line (status.Block number) blocks before after total = line_of (status.Block number) blocks 0
make_line status.ReadFault blocks before after total = line_of status.ReadFault blocks 0
make_line status.WriteFault blocks before after total = line_of status.WriteFault blocks 0
make_line status.NoMemory blocks before after total = line_of status.NoMemory blocks 0

-- no block is told, or those that are left of the input once it is accepted, or all of it
abbrev pub AreTold : ℕ → List ℕ → ℕ → Type 0
AreTold d input blocks = (blocks ≡ 0) ⊎ (HasBlocks d input blocks ⊎ HasBlocks 0 input blocks)

-- the output, which keeps what a written file keeps
pub record IsMadeAnew (aim : Aim) (input out : List ℕ) (blocks : ℕ) : Type 0 where
  pub is : IsRewritten aim input out
  pub kept : IsKept aim input out
  pub count : HasBlocks aim.reduce input blocks

-- what each status tells of the blocks, and of the output after Done; no file is read, and the words are good
abbrev pub TellsMade : Aim → List ℕ → Status → ℕ → List ℕ → Type 0
TellsMade aim input status.Done blocks out = IsMadeAnew aim input out blocks
TellsMade aim input status.Words blocks out = ⊥
TellsMade aim input (status.Unlike how) blocks out = ⊥
TellsMade aim input (status.Rule number place) blocks out = blocks ≡ 0
TellsMade aim input (status.Limit number found) blocks out = IsLimited aim.reduce input number blocks
TellsMade aim input (status.Choice number place) blocks out = IsChosen aim.reduce input number blocks
TellsMade aim input (status.Block number) blocks out = HasBlocks aim.reduce input blocks
TellsMade aim input status.ReadFault blocks out = ⊥
TellsMade aim input status.WriteFault blocks out = AreTold aim.reduce input blocks
TellsMade aim input status.NoMemory blocks out = AreTold aim.reduce input blocks

-- what becomes of a codestream whose output `out` is made in memory
pub record ComesOut (work : Work) (aim : Aim) (input : List ℕ) (s : Status) (blocks : ℕ) (out : List ℕ) (entries : List TapeEntry) : Type 0 where
  pub verdict : IsVerdict s → Verdict aim input s
  pub tells : TellsMade aim input s blocks out
  -- the tape has the entries of the first blocks, in their order, each once, by workers and inside windows that are asked for
  pub tape : IsRunTape work aim.reduce input entries
  -- and those of all blocks after Done
  pub whole : s ≡ status.Done → HasBlocks aim.reduce input (length entries)
  -- and how many after each status
  pub taped : IsTapedAfter aim.reduce input s (length entries)

-- how a run over good words of `make` ends: no file is touched
pub record EndsMade (m : Make) (rule : List ℕ → StreamFacts → Option Rule) (s : Status) (blocks : ℕ) (entries : List TapeEntry) (old new : Meaning) (before now : Option (List ℕ)) : Type 0 where
  pub files : new ≡ old
  pub out : List ℕ
  pub comes : ComesOut work_made (aim_made rule) (input_of m) s blocks out entries
  pub said : Says s (make_line s blocks (length (input_of m)) (length out) (sum out)) before now

-- ---- inner: what is known before the line is said

-- the numbers that the line has after Done, and the blocks that are told where it isn't said
pub record IsReadyToSay (m : Make) (rule : List ℕ → StreamFacts → Option Rule) (s : Status) (blocks before after total : ℕ) (entries : List TapeEntry) : Type 0 where
  pub out : List ℕ
  pub comes : ComesOut work_made (aim_made rule) (input_of m) s blocks out entries
  pub told : AreTold 0 (input_of m) blocks
  pub unfailed : s ≡ status.WriteFault → ⊥
  pub numbers : s ≡ status.Done → (before ≡ length (input_of m)) × (after ≡ length out) × (total ≡ sum out)
