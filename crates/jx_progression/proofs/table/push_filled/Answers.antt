use Rattle.jx_progression.proofs.PlacesLemmas.{push_kept, push_own}
use Rattle.jx_progression.proofs.table.push_filled.Goals as goal

pub returns-clause-kept : goal.returns-clause-kept
returns-clause-kept c = push_kept c.args.places.now.items c.push.new.self.items c.args.place c.in_ok-push.ensures.items

pub returns-clause-own : goal.returns-clause-own
returns-clause-own c = λ some. push_own c.args.places.now.items c.push.new.self.items c.args.place c.in_ok-push.ensures.items
