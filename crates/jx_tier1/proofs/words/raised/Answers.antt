use Rattle.jx_tier1.proofs.MaskLemmas.{raised_there, raised_other}
use Rattle.jx_tier1.proofs.words.raised.Goals as goal

pub returns : goal.returns
returns c = record {
  place = raised_there c.args.window c.args.place c.requires;
  others = λ i n. raised_other c.args.window c.args.place i n;
}
