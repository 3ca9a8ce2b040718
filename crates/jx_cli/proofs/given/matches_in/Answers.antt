use Rattle.std.proofs.Common.{◌∙◌, map, string_bytes}
use Rattle.clap.specs.Words.{app_of}
use Rattle.jx_cli.proofs.CommandLemmas.{found_texts, has_a_kind, simple_of}
use Rattle.jx_cli.proofs.given.matches_in.Goals as goal

pub returns-in-Ok-clause-taken : goal.returns-in-Ok-clause-taken
returns-in-Ok-clause-taken c = c.in-Ok.ensures.kinds c.requires.simple

pub returns-in-Ok-clause-found : goal.returns-in-Ok-clause-found
returns-in-Ok-clause-found c = found_texts (app_of c.args.command) (map string_bytes c.args.words.now) c.in-Ok.matches (simple_of (app_of c.args.command) c.requires.simple) c.in-Ok.ensures.matches

pub returns : goal.returns
returns c = record {
  taken = tt;
  found = tt;
  refused = λ _ none. has_a_kind _ c.in-Err.error (c.in-Err.ensures.kinds c.requires.simple) (λ memory. c.in_default.not-OutOfMemory (c.kind.ensures ∙ memory)) none;
}
