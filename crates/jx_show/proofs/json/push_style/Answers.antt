use Rattle.std.proofs.Common.{◌≡◌, ◌++◌, ◌∙◌, ap, Bool, List, ℕ, append_assoc, codes, string_bytes}
use Rattle.jx_base.specs.Passes.{bypasses, has_symbols, is_causal, resets, terminates}
use Rattle.jx_show.specs.Json.{flag_json}
use Rattle.jx_show.proofs.json.push_style.Goals as goal

regrouped : (t a b c d e f g : List ℕ) → ((((((t ++ a) ++ b) ++ c) ++ d) ++ e) ++ f) ++ g ≡ t ++ (a ++ (b ++ (c ++ (d ++ (e ++ (f ++ g))))))
regrouped t a b c d e f g = simp append_assoc

one : (old new words : List ℕ) (told holds : Bool) → told ≡ holds → new ≡ old ++ flag_json words told → new ≡ old ++ flag_json words holds
one old new words told holds is e = e ∙ ap (λ (b : Bool). old ++ flag_json words b) is

all : (t0 t1 t2 t3 t4 t5 t6 t7 a b c d e f g : List ℕ) → t1 ≡ t0 ++ a → t2 ≡ t1 ++ b → t3 ≡ t2 ++ c → t4 ≡ t3 ++ d → t5 ≡ t4 ++ e → t6 ≡ t5 ++ f → t7 ≡ t6 ++ g
    → t7 ≡ t0 ++ (a ++ (b ++ (c ++ (d ++ (e ++ (f ++ g))))))
all t0 t1 t2 t3 t4 t5 t6 t7 a b c d e f g h1 h2 h3 h4 h5 h6 h7 = rw (h7, h6, h5, h4, h3, h2, h1) (regrouped t0 a b c d e f g)

pub returns : goal.returns
returns c =
    let bits = c.args.style.bits in
    let t0 : List ℕ = string_bytes c.args.text.now in
    let t1 : List ℕ = string_bytes c.push_holds.new.text in
    let t2 : List ℕ = string_bytes c.push_holds-2.new.text in
    let t3 : List ℕ = string_bytes c.push_holds-3.new.text in
    let t4 : List ℕ = string_bytes c.push_holds-4.new.text in
    let t5 : List ℕ = string_bytes c.push_holds-5.new.text in
    let t6 : List ℕ = string_bytes c.push_holds-6.new.text in
    all t0 t1 t2 t3 t4 t5 t6 (string_bytes c.push_str.new.self) _ _ _ _ _ _ (codes "}")
    (one t0 t1 (codes "{\"bypass\": ") c.bypass.result (bypasses bits) c.bypass.ensures c.in_ok-push_holds.ensures)
    (one t1 t2 (codes ", \"reset\": ") c.reset.result (resets bits) c.reset.ensures c.in_ok-push_holds-2.ensures)
    (one t2 t3 (codes ", \"terminate\": ") c.terminate.result (terminates bits) c.terminate.ensures c.in_ok-push_holds-3.ensures)
    (one t3 t4 (codes ", \"causal\": ") c.causal.result (is_causal bits) c.causal.ensures c.in_ok-push_holds-4.ensures)
    c.in_ok-push_holds-5.ensures
    (one t5 t6 (codes ", \"segment\": ") c.segmentation.result (has_symbols bits) c.segmentation.ensures c.in_ok-push_holds-6.ensures)
    c.in_ok-push_str.ensures.bytes
