use Rattle.std.proofs.Common.{◌≡◌, ◌++◌, List, ℕ, append_assoc, codes, string_bytes}
use Rattle.jx_show.specs.Json.{precincts_json, sizes_json}
use Rattle.jx_show.specs.Text.{about_text}
use Rattle.jx_show.proofs.sizes.push_member.Goals as goal

regrouped : (t a b c d e : List ℕ) → ((((t ++ a) ++ b) ++ c) ++ d) ++ e ≡ t ++ (a ++ (b ++ (c ++ (d ++ e))))
regrouped t a b c d e = simp append_assoc

all : (t0 t1 t2 t3 t4 t5 a b c d e : List ℕ) → t1 ≡ t0 ++ a → t2 ≡ t1 ++ b → t3 ≡ t2 ++ c → t4 ≡ t3 ++ d → t5 ≡ t4 ++ e → t5 ≡ t0 ++ (a ++ (b ++ (c ++ (d ++ e))))
all t0 t1 t2 t3 t4 t5 a b c d e h1 h2 h3 h4 h5 = rw (h5, h4, h3, h2, h1) (regrouped t0 a b c d e)

pub returns : goal.returns
unfolding precincts_json
returns c =
    all (string_bytes c.args.text.now) (string_bytes c.push_str.new.self) (string_bytes c.push_about.new.text) (string_bytes c.push_str-2.new.self)
    (string_bytes c.push_sizes_json.new.text) (string_bytes c.push_str-3.new.self) (codes ",\n  \"precincts") (about_text c.args.about) (codes "\": [") (sizes_json c.args.bytes.now)
    (codes "]") c.in_ok-push_str.ensures.bytes c.in_ok-push_about.ensures c.in_ok-push_str-2.ensures.bytes c.in_ok-push_sizes_json.ensures c.in_ok-push_str-3.ensures.bytes
