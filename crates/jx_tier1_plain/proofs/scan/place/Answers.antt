use Rattle.jx_tier1_specs.specs.Pass.{scan_column}
use Rattle.jx_tier1_specs.proofs.Scanning.{column_inside}
use Rattle.jx_tier1_plain.proofs.scan.place.Goals as goal

pub returns-clause-in_columns : goal.returns-clause-in_columns
unfolding scan_column
returns-clause-in_columns c =
    rw (c.min-rows.ensures, c.from.ensures, c.from-stripe.ensures) (column_inside c.args.width c.args.height c.args.n c.requires.within)
