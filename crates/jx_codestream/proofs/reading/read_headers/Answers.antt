use Rattle.std.proofs.Common.{◌≡◌, ◌<◌, subst, length, ℕ, arith, IfOk}
use Rattle.std.specs.List.{All}
use Rattle.jx_codestream.specs.declared.parts.PlacedPart.{PlacedPart}
use Rattle.jx_codestream.specs.Faults.{Answers}
use Rattle.jx_codestream.specs.First.{body_fault, main_header, packed_after, parts_after}
use Rattle.jx_codestream.specs.PackedHeaders.{with_shares}
use Rattle.jx_codestream.proofs.reading.read_headers.Goals as goal

pub returns-clause-answer : goal.returns-clause-answer
returns-clause-answer c =
    let size : length c.deref_mut-2.result.now ≡ c.args.count = omega (arith, c.deref_mut-2.ensures.len, c.in_ok-counts.ensures.len) in
    let P : ℕ → Type 0 = λ n. Answers c.read_body.result (body_fault c.args.comps n c.args.bytes.now c.args.start)
    (λ r. (r.0 ≡ main_header c.args.comps c.args.bytes.now c.args.start) × (r.1.items ≡ with_shares c.args.bytes.now (packed_after c.args.comps c.args.bytes.now c.args.start) (parts_after c.args.comps n c.args.bytes.now c.args.start).parts)) in
    subst P size c.read_body.ensures.answer

pub returns-clause-tiles : goal.returns-clause-tiles
returns-clause-tiles c =
    let size : length c.deref_mut-2.result.now ≡ c.args.count = omega (arith, c.deref_mut-2.ensures.len, c.in_ok-counts.ensures.len) in
    let P : ℕ → Type 0 = λ n. IfOk c.read_body.result (λ r. All (λ (part : PlacedPart). part.sot.tile < n) r.1.items) in
    subst P size c.read_body.ensures.tiles
