use Rattle.std.proofs.Common.{◌≡◌, ◌∙◌, List, ℕ, length, sym, ap, subst, arith}
use Rattle.byteorder.specs.Endian.{big_from}
use Rattle.jx_codestream.specs.declared.Body.{Body}
use Rattle.jx_codestream.specs.PackedHeaders.{LieIn, joined_bytes, share_size}
use Rattle.jx_codestream.proofs.PieceLemmas.{after_lies, first_lies, lie_fit, rest_same, share_ends, share_is_there, share_lies, share_same, share_starts}
use Rattle.jx_codestream.proofs.shares.Cursor.take_share.Goals as goal

pub joined_bytes-requires : goal.joined_bytes-requires
joined_bytes-requires c =
    let t = rw c.in-Some.is at c.in_ok-front.ensures in
    subst (LieIn c.args.bytes.now) (sym (c.deref.ensures.value ∙ t.1)) (first_lies c.args.bytes.now 4 c.args.self.now c.requires.inside)

pub u32_at-size-requires : goal.u32_at-size-requires
u32_at-size-requires c =
    let t = rw c.in-Some.is at c.in_ok-front.ensures in
    let long : length c.deref-2.result.now ≡ 4 = ap (λ (x : List ℕ). length x) (c.deref-2.ensures.value ∙ c.in_ok-number.ensures) ∙ share_starts c.args.bytes.now c.args.self.now c.deref.result.now c.requires.inside t.0 (c.deref.ensures.value ∙ t.1) in
    omega (arith, long)

pub take-requires-2 : goal.take-requires-2
take-requires-2 c =
    let t = rw c.in-Some.is at c.in_ok-front.ensures in
    lie_fit c.args.bytes.now c.take.new.self c.requires.fits (subst (LieIn c.args.bytes.now) (sym t.2) (after_lies c.args.bytes.now 4 c.args.self.now c.requires.inside))

pub returns-in_default-2 : goal.returns-in_default-2
returns-in_default-2 c =
    let t = rw c.in-Some.is at c.in_ok-front.ensures in
    let named : c.u32_at-size.result ≡ share_size c.args.bytes.now c.args.self.now =
    c.u32_at-size.ensures ∙ ap (λ (x : List ℕ). big_from 0 4 x) (c.deref-2.ensures.value ∙ c.in_ok-number.ensures) ∙ ap (λ (x : List Body). big_from 0 4 (joined_bytes c.args.bytes.now x)) (c.deref.ensures.value ∙ t.1) in
    let short = rw c.in_default-2.is at c.in_ok-share.ensures in
    share_ends c.args.bytes.now c.args.self.now c.take.new.self c.u32_at-size.result t.0 t.2 named short

pub returns : goal.returns
returns c =
    let t = rw c.in-Some.is at c.in_ok-front.ensures in
    let u = rw c.in-Some-2.is at c.in_ok-share.ensures in
    let named : c.u32_at-size.result ≡ share_size c.args.bytes.now c.args.self.now =
    c.u32_at-size.ensures ∙ ap (λ (x : List ℕ). big_from 0 4 x) (c.deref-2.ensures.value ∙ c.in_ok-number.ensures) ∙ ap (λ (x : List Body). big_from 0 4 (joined_bytes c.args.bytes.now x)) (c.deref.ensures.value ∙ t.1) in
    let rest = rest_same c.args.bytes.now c.args.self.now c.take.new.self c.take-2.new.self c.u32_at-size.result t.2 named u.2 in (
      share_is_there c.args.bytes.now c.args.self.now c.take.new.self c.u32_at-size.result t.0 t.2 named u.0,
      share_same c.args.bytes.now c.args.self.now c.take.new.self c.in-Some-2.share.items c.u32_at-size.result t.2 named u.1,
      rest,
      subst (LieIn c.args.bytes.now) (sym rest) (share_lies c.args.bytes.now c.args.self.now c.requires.inside),
    )
