use Rattle.std.proofs.Common.{rules, ◌≡◌, ◌∙◌, ◌-◌, ◌/◌, ◌%◌, ℕ, ap, min, Some}
use Rattle.jx_geom.specs.Rects.{block_across, block_down}
use Rattle.jx_plan.specs.Headers.{comp_written}
use Rattle.jx_plan.proofs.FitLemmas.{decided_else, decided_then}
use Rattle.jx_plan.proofs.fitting.keeps_at.Goals as goal

pub returns-then-before-after : goal.returns-then-before-after
returns-then-before-after c =
    let s = c.args.shape.now in
    let t = comp_written (Some c.args.items.now) s in
    let r = c.args.res in
    let sizes = c.exponents_at.ensures s.levels c.requires.level c.requires.levels in
    let own_across : c.block_at-before.result.0 ≡ block_across s r = search rules in
    let own_down : c.block_at-before.result.1 ≡ block_down s r = search rules in
    let new_across : c.block_at-after.result.0 ≡ block_across t r = c.block_at-after.ensures.across ∙ ap (λ (n : ℕ). min s.xcb (n % 16 - min r 1)) sizes in
    let new_down : c.block_at-after.result.1 ≡ block_down t r = c.block_at-after.ensures.down ∙ ap (λ (n : ℕ). min s.ycb (n / 16 - min r 1)) sizes in
    decided_then s t r _ _ _ _ own_across own_down new_across new_down c.if-before-after.true

pub returns-else-before-after : goal.returns-else-before-after
returns-else-before-after c =
    let s = c.args.shape.now in
    let t = comp_written (Some c.args.items.now) s in
    let r = c.args.res in
    let sizes = c.exponents_at.ensures s.levels c.requires.level c.requires.levels in
    let own_across : c.block_at-before.result.0 ≡ block_across s r = search rules in
    let own_down : c.block_at-before.result.1 ≡ block_down s r = search rules in
    let new_across : c.block_at-after.result.0 ≡ block_across t r = c.block_at-after.ensures.across ∙ ap (λ (n : ℕ). min s.xcb (n % 16 - min r 1)) sizes in
    let new_down : c.block_at-after.result.1 ≡ block_down t r = c.block_at-after.ensures.down ∙ ap (λ (n : ℕ). min s.ycb (n / 16 - min r 1)) sizes in
    decided_else s t r _ _ _ _ own_across own_down new_across new_down c.if-before-after.false
