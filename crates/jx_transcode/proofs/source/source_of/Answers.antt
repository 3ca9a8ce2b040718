use Rattle.std.proofs.Common.{refl, rules}
use Rattle.jx_base.specs.Limits.{most_bytes}
use Rattle.jx_transcode.proofs.JudgeLemmas.{content_short}
use Rattle.jx_transcode.proofs.source.source_of.Goals as goal

pub returns-in-Ok-clause-ok : goal.returns-in-Ok-clause-ok
returns-in-Ok-clause-ok c = record { whole = refl; lies = (search rules, c.in-Ok.ensures.found, refl, c.content_of.ensures) }

pub returns-in-Ok-clause-within : goal.returns-in-Ok-clause-within
returns-in-Ok-clause-within c = rw c.content_of.ensures (content_short most_bytes c.args.file.now c.in-Ok.boxed c.requires.within)
