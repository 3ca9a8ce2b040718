use Rattle.std.proofs.Common.{◌∷◌, ◌∙◌, ap, Bool}
use Rattle.std.proofs.lemmas.Result.{err_from_is_err_and}
use Rattle.jx_tagtree.specs.Header.{to_come}
use Rattle.jx_packet_header.proofs.WordLemmas.{passes_none, passes_one, passes_half, passes_two, passes_more}
use Rattle.jx_packet_header.proofs.words.read_passes.Goals as goal

pub returns-in_err-flag-clause-err : goal.returns-in_err-flag-clause-err
returns-in_err-flag-clause-err c =
    let p = err_from_is_err_and c.from_residual.result c.from_residual.ensures.1 in
    rw (p.1, p.2) (c.in_err-flag.ensures.err.0, passes_none (to_come c.args.bits.now) c.in_err-flag.ensures.err.1)

pub returns-then-not-branch-clause-ok : goal.returns-then-not-branch-clause-ok
returns-then-not-branch-clause-ok c =
    passes_one (to_come c.args.bits.now) (to_come c.flag.new.bits) (c.in_ok-flag.ensures.ok ∙ ap (λ (b : Bool). b ∷ to_come c.flag.new.bits) c.if-not-branch.true)

pub returns-in_err-flag-2-clause-err : goal.returns-in_err-flag-2-clause-err
returns-in_err-flag-2-clause-err c =
    let p = err_from_is_err_and c.from_residual-in_err-flag-2.result c.from_residual-in_err-flag-2.ensures.1 in
    rw (p.1, p.2) (
      c.in_err-flag-2.ensures.err.0,
      passes_half (to_come c.args.bits.now) (to_come c.flag.new.bits)
          (c.in_ok-flag.ensures.ok ∙ ap (λ (b : Bool). b ∷ to_come c.flag.new.bits) c.if-not-branch.false) c.in_err-flag-2.ensures.err.1,
    )

pub returns-then-not-branch-2-clause-ok : goal.returns-then-not-branch-2-clause-ok
returns-then-not-branch-2-clause-ok c =
    passes_two (to_come c.args.bits.now) (to_come c.flag.new.bits) (to_come c.flag-2.new.bits)
    (c.in_ok-flag.ensures.ok ∙ ap (λ (b : Bool). b ∷ to_come c.flag.new.bits) c.if-not-branch.false)
    (c.in_ok-flag-2.ensures.ok ∙ ap (λ (b : Bool). b ∷ to_come c.flag-2.new.bits) c.if-not-branch-2.true)

pub returns-clause-ok : goal.returns-clause-ok
returns-clause-ok c =
    rw (passes_more (to_come c.args.bits.now) (to_come c.flag.new.bits) (to_come c.flag-2.new.bits)
    (c.in_ok-flag.ensures.ok ∙ ap (λ (b : Bool). b ∷ to_come c.flag.new.bits) c.if-not-branch.false)
    (c.in_ok-flag-2.ensures.ok ∙ ap (λ (b : Bool). b ∷ to_come c.flag-2.new.bits) c.if-not-branch-2.false)) c.read_some_passes.ensures.ok

pub returns-clause-err : goal.returns-clause-err
returns-clause-err c =
    rw (passes_more (to_come c.args.bits.now) (to_come c.flag.new.bits) (to_come c.flag-2.new.bits)
    (c.in_ok-flag.ensures.ok ∙ ap (λ (b : Bool). b ∷ to_come c.flag.new.bits) c.if-not-branch.false)
    (c.in_ok-flag-2.ensures.ok ∙ ap (λ (b : Bool). b ∷ to_come c.flag-2.new.bits) c.if-not-branch-2.false)) c.read_some_passes.ensures.err
