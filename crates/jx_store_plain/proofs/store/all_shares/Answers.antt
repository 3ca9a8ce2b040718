use Rattle.std.proofs.Common.{◌≡◌, ◌+◌, List, [], ◌∷◌, ◌++◌, length, vec_len, ap, sym, ◌∙◌}
use Rattle.std.specs.Prelude.{Option, option_to_list}
use Rattle.jx_store_plain.specs.Passes.{PassView}
use Rattle.jx_store_plain.proofs.Sharing.{first_share, share_more, shares_all}
use Rattle.jx_store_plain.proofs.store.all_shares.Goals as goal

pub loop-pass-init : goal.loop-pass-init
loop-pass-init g c =
    let xs : List PassView = c.args.passes.items in
    let ys : List PassView = c.pop.new.self.items in
    let x : PassView = c.in-Some.first in
    let e : xs ≡ ys ++ x ∷ [] = c.pop.ensures.items ∙ ap (λ (o : Option PassView). ys ++ option_to_list o) c.in-Some.is in
    let l : vec_len c.pop.new.self + 1 ≡ vec_len c.args.passes =
    ap (λ (o : Option PassView). vec_len c.pop.new.self + length (option_to_list o)) (sym c.in-Some.is) ∙ c.pop.ensures.len in
    let h = c.shares-all.ensures in
    record {
      a = first_share (λ (p : PassView). p.claimed) xs ys x _ _ _ _ e l h.parts.0 h.counts.0;
      b = first_share (λ (p : PassView). p.full) xs ys x _ _ _ _ e l h.parts.1 h.counts.1;
      c = first_share (λ (p : PassView). p.all_claimed) xs ys x _ _ _ _ e l h.parts.2 h.counts.2;
      d = first_share (λ (p : PassView). p.committed) xs ys x _ _ _ _ e l h.parts.3 h.counts.3;
      e = first_share (λ (p : PassView). p.made) xs ys x _ _ _ _ e l h.parts.4 h.counts.4;
    }

pub loop-pass-preserved : goal.loop-pass-preserved
loop-pass-preserved g c =
    let xs : List PassView = c.loop-pass.passes.items in
    let ys : List PassView = c.pop-in-loop-pass.new.self.items in
    let x : PassView = c.in-Some-pop.pass in
    let e : xs ≡ ys ++ x ∷ [] = c.pop-in-loop-pass.ensures.items ∙ ap (λ (o : Option PassView). ys ++ option_to_list o) c.in-Some-pop.is in
    let l : vec_len c.pop-in-loop-pass.new.self + 1 ≡ vec_len c.loop-pass.passes =
    ap (λ (o : Option PassView). vec_len c.pop-in-loop-pass.new.self + length (option_to_list o)) (sym c.in-Some-pop.is) ∙ c.pop-in-loop-pass.ensures.len in
    let i = c.loop-pass.invariant in
    let h = c.shares-one.ensures in
    record {
      a = share_more (λ (p : PassView). p.claimed) xs ys x _ _ _ _ _ _ _ _ _ _ e l i.a h.parts.0 h.counts.0 c.merge.ensures.parts c.merge.ensures.amount;
      b = share_more (λ (p : PassView). p.full) xs ys x _ _ _ _ _ _ _ _ _ _ e l i.b h.parts.1 h.counts.1 c.merge-in-Some-pop.ensures.parts c.merge-in-Some-pop.ensures.amount;
      c = share_more (λ (p : PassView). p.all_claimed) xs ys x _ _ _ _ _ _ _ _ _ _ e l i.c h.parts.2 h.counts.2 c.merge-in-Some-pop-2.ensures.parts c.merge-in-Some-pop-2.ensures.amount;
      d = share_more (λ (p : PassView). p.committed) xs ys x _ _ _ _ _ _ _ _ _ _ e l i.d h.parts.3 h.counts.3 c.merge-in-Some-pop-3.ensures.parts c.merge-in-Some-pop-3.ensures.amount;
      e = share_more (λ (p : PassView). p.made) xs ys x _ _ _ _ _ _ _ _ _ _ e l i.e h.parts.4 h.counts.4 c.merge-in-Some-pop-4.ensures.parts c.merge-in-Some-pop-4.ensures.amount;
    }

pub returns : goal.returns
returns g c =
    let xs : List PassView = c.loop-pass.passes.items in
    let k : vec_len c.loop-pass.passes ≡ 0 = c.in_default-pop.ensures.cases.0 in
    let z : length xs ≡ 0 = sym c.loop-pass.passes.ok.0 ∙ k in
    let i = c.loop-pass.invariant in
    let a = shares_all (λ (p : PassView). p.claimed) xs _ _ _ _ _ z k i.a in
    let b = shares_all (λ (p : PassView). p.full) xs _ _ _ _ _ z k i.b in
    let n = shares_all (λ (p : PassView). p.all_claimed) xs _ _ _ _ _ z k i.c in
    let d = shares_all (λ (p : PassView). p.committed) xs _ _ _ _ _ z k i.d in
    let e = shares_all (λ (p : PassView). p.made) xs _ _ _ _ _ z k i.e in
    record {
      parts = (a.0, b.0, n.0, d.0, e.0);
      claimed = a.1;
      full = b.1;
      all_claimed = n.1;
      committed = d.1;
      made = e.1;
    }
