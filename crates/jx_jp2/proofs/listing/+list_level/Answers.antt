use Rattle.std.proofs.Common.{◌≡◌, ◌+◌, ◌-◌, ◌++◌, ℕ, Bool, arith, sym, ap, subst, ◌∙◌, None, Some, string_bytes}
use Rattle.std.proofs.lemmas.Result.{err_from_is_err_and}
use Rattle.jx_jp2.specs.declared.Boxed.{Boxed}
use Rattle.jx_jp2.specs.Heads.{tbox, length_at, from_at, end_at, first_broken}
use Rattle.jx_jp2.specs.Lines.{line_text}
use Rattle.jx_jp2.specs.Trees.{is_top, opened}
use Rattle.jx_jp2.proofs.HeadLemmas.{sound}
use Rattle.jx_jp2.proofs.TreeLemmas.{below_opened, walked_closed, walked_opened, walked_all, broken_inside}
use Rattle.jx_jp2.proofs.listing.+list_level.Goals as goal

pub tbox-kind-requires : goal.tbox-kind-requires
tbox-kind-requires t c =
    let s = sound c.args.bytes.now c.is_top.result c.args.stop c.loop-at.at c.requires.within c.in_ok-boxed.ensures.sound in
    omega (arith, s.head)

pub loop-at-smaller-in_default : goal.loop-at-smaller-in_default
loop-at-smaller-in_default t c =
    let s = sound c.args.bytes.now c.is_top.result c.args.stop c.loop-at.at c.requires.within c.in_ok-boxed.ensures.sound in
    let end : c.in_ok-boxed.boxed.to ≡ c.loop-at.at + length_at c.args.bytes.now c.loop-at.at = ap (λ (b : Boxed). b.to) c.in_ok-boxed.ensures.boxed in
    omega (arith, s.grows, s.ends, end)

pub loop-at-preserved-in_default : goal.loop-at-preserved-in_default
loop-at-preserved-in_default t c =
    let none : first_broken c.args.bytes.now (is_top c.args.level) c.args.stop c.loop-at.at ≡ None =
    subst (λ (top : Bool). first_broken c.args.bytes.now top c.args.stop c.loop-at.at ≡ None) c.is_top.ensures c.in_ok-boxed.ensures.sound in
    let kind : opened c.args.level c.tbox-kind.result ≡ opened c.args.level (tbox c.args.bytes.now c.loop-at.at) = ap (λ (k : ℕ). opened c.args.level k) c.tbox-kind.ensures in
    let closed : opened c.args.level (tbox c.args.bytes.now c.loop-at.at) ≡ None = sym kind ∙ (sym c.opened.ensures ∙ c.in_default.is) in
    let line : string_bytes c.push_line.new.text ≡ string_bytes c.loop-at.text ++ line_text c.args.depth (tbox c.args.bytes.now c.loop-at.at) c.in_ok-boxed.boxed.head (c.in_ok-boxed.boxed.to - c.in_ok-boxed.boxed.head) =
    c.in_ok-push_line.ensures ∙ ap (λ (k : ℕ). string_bytes c.loop-at.text ++ line_text c.args.depth k c.in_ok-boxed.boxed.head (c.in_ok-boxed.boxed.to - c.in_ok-boxed.boxed.head)) c.tbox-kind.ensures in
    walked_closed c.args.bytes.now c.args.level c.args.depth c.args.from c.args.stop c.loop-at.at c.in_ok-boxed.boxed (string_bytes c.args.text.now) (string_bytes c.loop-at.text)
    (string_bytes c.push_line.new.text) c.loop-at.invariant c.requires.within none c.in_ok-boxed.ensures.boxed closed line

pub list_level-requires : goal.list_level-requires
list_level-requires t c =
    let some : opened c.args.level c.tbox-kind.result ≡ Some c.in-Some.inner = sym c.opened.ensures ∙ c.in-Some.is in
    let deeper = below_opened c.args.level c.in-Some.inner c.tbox-kind.result some in
    let s = sound c.args.bytes.now c.is_top.result c.args.stop c.loop-at.at c.requires.within c.in_ok-boxed.ensures.sound in
    let begin : c.in_ok-boxed.boxed.from ≡ from_at c.args.bytes.now c.loop-at.at = ap (λ (b : Boxed). b.from) c.in_ok-boxed.ensures.boxed in
    let end : c.in_ok-boxed.boxed.to ≡ end_at c.args.bytes.now c.loop-at.at = ap (λ (b : Boxed). b.to) c.in_ok-boxed.ensures.boxed in
    (omega (arith, deeper), (c.requires.small, (omega (arith, s.size, begin, end), (omega (arith, s.ends, end), omega (arith, deeper)))))

pub loop-at-smaller : goal.loop-at-smaller
loop-at-smaller t c =
    let s = sound c.args.bytes.now c.is_top.result c.args.stop c.loop-at.at c.requires.within c.in_ok-boxed.ensures.sound in
    let end : c.in_ok-boxed.boxed.to ≡ c.loop-at.at + length_at c.args.bytes.now c.loop-at.at = ap (λ (b : Boxed). b.to) c.in_ok-boxed.ensures.boxed in
    omega (arith, s.grows, s.ends, end)

pub loop-at-preserved : goal.loop-at-preserved
loop-at-preserved t c =
    let none : first_broken c.args.bytes.now (is_top c.args.level) c.args.stop c.loop-at.at ≡ None =
    subst (λ (top : Bool). first_broken c.args.bytes.now top c.args.stop c.loop-at.at ≡ None) c.is_top.ensures c.in_ok-boxed.ensures.sound in
    let kind : opened c.args.level c.tbox-kind.result ≡ opened c.args.level (tbox c.args.bytes.now c.loop-at.at) = ap (λ (k : ℕ). opened c.args.level k) c.tbox-kind.ensures in
    let some : opened c.args.level (tbox c.args.bytes.now c.loop-at.at) ≡ Some c.in-Some.inner = sym kind ∙ (sym c.opened.ensures ∙ c.in-Some.is) in
    let line : string_bytes c.push_line.new.text ≡ string_bytes c.loop-at.text ++ line_text c.args.depth (tbox c.args.bytes.now c.loop-at.at) c.in_ok-boxed.boxed.head (c.in_ok-boxed.boxed.to - c.in_ok-boxed.boxed.head) =
    c.in_ok-push_line.ensures ∙ ap (λ (k : ℕ). string_bytes c.loop-at.text ++ line_text c.args.depth k c.in_ok-boxed.boxed.head (c.in_ok-boxed.boxed.to - c.in_ok-boxed.boxed.head)) c.tbox-kind.ensures in
    walked_opened c.args.bytes.now c.args.level c.in-Some.inner c.args.depth c.args.from c.args.stop c.loop-at.at c.in_ok-boxed.boxed (string_bytes c.args.text.now) (string_bytes c.loop-at.text)
    (string_bytes c.push_line.new.text) (string_bytes c.list_level.new.text) c.loop-at.invariant c.requires.within none c.in_ok-boxed.ensures.boxed some line c.in_ok-list_level.ensures.lines

pub returns-in_err-list_level-clause-fault : goal.returns-in_err-list_level-clause-fault
returns-in_err-list_level-clause-fault t c =
    let none : first_broken c.args.bytes.now (is_top c.args.level) c.args.stop c.loop-at.at ≡ None =
    subst (λ (top : Bool). first_broken c.args.bytes.now top c.args.stop c.loop-at.at ≡ None) c.is_top.ensures c.in_ok-boxed.ensures.sound in
    let kind : opened c.args.level c.tbox-kind.result ≡ opened c.args.level (tbox c.args.bytes.now c.loop-at.at) = ap (λ (k : ℕ). opened c.args.level k) c.tbox-kind.ensures in
    let some : opened c.args.level (tbox c.args.bytes.now c.loop-at.at) ≡ Some c.in-Some.inner = sym kind ∙ (sym c.opened.ensures ∙ c.in-Some.is) in
    let p = err_from_is_err_and c.from_residual-in_err-list_level.result c.from_residual-in_err-list_level.ensures.1 in
    rw (p.1, p.2) (broken_inside c.args.bytes.now c.args.level c.in-Some.inner c.args.depth c.args.from c.args.stop c.loop-at.at c.in_ok-boxed.boxed (string_bytes c.args.text.now) (string_bytes c.loop-at.text)
    c.in_err-list_level.field-0.0 c.loop-at.invariant none c.in_ok-boxed.ensures.boxed some c.in_err-list_level.ensures.fault)

pub returns-clause-lines : goal.returns-clause-lines
returns-clause-lines t c =
    walked_all c.args.bytes.now c.args.level c.args.depth c.args.from c.args.stop c.loop-at.at (string_bytes c.args.text.now) (string_bytes c.loop-at.text)
    c.loop-at.invariant c.loop-at-test.false
