-- An input has one output.
use Rattle.std.proofs.Common.{◌≡◌, ◌≤◌, ◌∙◌, ℕ, List, length, inl, inr, ap, sym, subst, refl, arith}
use Rattle.jx_base.specs.Limits.{most_bytes}
use Rattle.jx_base.specs.declared.pieces.Block.{Block}
use Rattle.jx_codestream.specs.declared.Stream.{Stream}
use Rattle.jx_cli.specs.Words.{Text}
use Rattle.jx_io.specs.Device.{Meaning}
use Rattle.jx_jp2.specs.declared.Boxed.{Boxed}
use Rattle.jx_jp2.specs.Codestream.{IsCodestream, content}
use Rattle.jx_layers.specs.Rule.{Rule}
use Rattle.jx_options.specs.Work.{Work}
use Rattle.jx_options.specs.declared.FormChoice.{FormChoice}
use Rattle.jx_options.specs.declared.Marks.{Marks}
use Rattle.jx_plan.specs.Planned.{blocks_written}
use Rattle.jx_rounds.specs.declared.tape.TapeEntry.{TapeEntry}
use Rattle.jx_tier2_writer.specs.TileParts.{IsOutput}
use Rattle.jx_transcode.specs.Aims.{Aim, with_limit}
use Rattle.jx_transcode.specs.Jp2Run.{EndsAround, LeavesAround, file_in}
use Rattle.jx_transcode.specs.Rewritten.{IsRewritten, headers_of}
use Rattle.jx_transcode.specs.TranscodeRun.{EndsBare}
use Rattle.jx_transcode.specs.declared.status.Status.TheVariants as status
use Rattle.jx_transcode.proofs.OneVerdictLemmas.{Laws, here}

-- headers and blocks give one file
abbrev pub OneOutput : Type 0
OneOutput = (m : Marks) (s : Stream) (blocks : List Block) (b c : List ℕ) → IsOutput m s blocks b → IsOutput m s blocks c → b ≡ c

-- an output is one by any limit
pub at_limit : (aim : Aim) (limit : ℕ) (input out : List ℕ) → IsRewritten (with_limit limit aim) input out → IsRewritten aim input out
at_limit aim limit input out is =
    record {
      stream = is.stream;
      blocks = is.blocks;
      reads = is.reads;
      can = record { by = is.can.by; is = is.can.is; layers = is.can.layers; free = is.can.free };
      right = is.right;
      output = is.output;
      short = is.short;
    }

module _ (laws : Laws) (one : OneOutput) (aim : Aim) (input : List ℕ) (short : length input ≤ most_bytes) where
  pub one_file : (out other : List ℕ) → IsRewritten aim input out → IsRewritten aim input other → out ≡ other
  one_file out other x y =
      let again : IsOutput aim.wanted.marks (headers_of aim.wanted x.can.by x.stream x.blocks) (blocks_written aim.wanted x.can.by x.stream x.blocks) other =
      here laws aim input short x.stream y.stream x.blocks y.blocks x.reads y.reads x.can y.can
      (λ (r : Rule) (s : Stream) (b : List Block). IsOutput aim.wanted.marks (headers_of aim.wanted r s b) (blocks_written aim.wanted r s b) other) y.output in
      one aim.wanted.marks (headers_of aim.wanted x.can.by x.stream x.blocks) (blocks_written aim.wanted x.can.by x.stream x.blocks) out other x.output again

-- ---- two runs
module _ (laws : Laws) (one : OneOutput) (aim : Aim) (few : aim.limit ≤ most_bytes) where
  pub same_runs : (name again : Text) (work other : Work) (input : List ℕ) (blocks bytes blocks2 bytes2 : ℕ) (tape tape2 : List TapeEntry) (old new old2 new2 : Meaning)
      → (x : EndsBare name work aim input status.Done blocks bytes tape old new) → (y : EndsBare again other aim input status.Done blocks2 bytes2 tape2 old2 new2) → x.leaves.out ≡ y.leaves.out
  same_runs name again work other input blocks bytes blocks2 bytes2 tape tape2 old new old2 new2 x y =
      one_file laws one aim input (omega (arith, (x.verdict tt).0, few)) x.leaves.out y.leaves.out x.leaves.is y.leaves.is

  rewritten_in : (name : Text) (kind : FormChoice) (input : List ℕ) (boxed : Boxed) (out : List ℕ) (blocks bytes : ℕ) (old new : Meaning) → LeavesAround name kind aim input boxed out status.Done blocks bytes old new
      → IsRewritten aim (content input boxed) out
  rewritten_in name kind input boxed out blocks bytes old new (inl made) = made.0
  rewritten_in name kind input boxed out blocks bytes old new (inr same) = absurd (same.0 refl)

  pub same_files : ((bytes : List ℕ) (first second : Boxed) → IsCodestream bytes first → IsCodestream bytes second → first ≡ second) → (name again : Text) (work other : Work) (kind : FormChoice) (input : List ℕ) (boxed boxed2 : Boxed)
      (blocks bytes blocks2 bytes2 : ℕ) (tape tape2 : List TapeEntry) (old new old2 new2 : Meaning)
      → (x : EndsAround name work kind aim input boxed status.Done blocks bytes tape old new) → (y : EndsAround again other kind aim input boxed2 status.Done blocks2 bytes2 tape2 old2 new2)
      → file_in kind input boxed x.out ≡ file_in kind input boxed2 y.out
  same_files codestream name again work other kind input boxed boxed2 blocks bytes blocks2 bytes2 tape tape2 old new old2 new2 x y =
      let same : boxed2 ≡ boxed = codestream input boxed2 boxed y.found x.found in
      let first : IsRewritten aim (content input boxed) x.out = rewritten_in name kind input boxed x.out blocks bytes old new x.leaves in
      let second : IsRewritten aim (content input boxed) y.out = subst (λ (b : Boxed). IsRewritten aim (content input b) y.out) same (rewritten_in again kind input boxed2 y.out blocks2 bytes2 old2 new2 y.leaves) in
      ap (λ (out : List ℕ). file_in kind input boxed out) (one_file laws one aim (content input boxed) (omega (arith, (x.verdict tt).0, few)) x.out y.out first second)
      ∙ ap (λ (b : Boxed). file_in kind input b y.out) (sym same)
