use Rattle.std.proofs.Common.{arith}
use Rattle.std.proofs.lemmas.Bool.Decides.{nat_tests}
use Rattle.jx_marker.proofs.RuleLemmas.{siz_rules, cod_rules, coc_rules, qcd_rules, qcc_rules, rgn_rules, poc_rules, plain_rules}
use Rattle.jx_marker.proofs.rules.rule_inside.Goals as goal

pub returns-in-81 : goal.returns-in-81
returns-in-81 c = rw (c.in-81.is, siz_rules) c.siz_rule.ensures

pub returns-in-82 : goal.returns-in-82
returns-in-82 c = rw (c.in-82.is, cod_rules) c.cod_rule.ensures

pub returns-in-83 : goal.returns-in-83
returns-in-83 c = rw (c.in-83.is, coc_rules) c.coc_rule.ensures

pub returns-in-92 : goal.returns-in-92
returns-in-92 c = rw (c.in-92.is, qcd_rules) c.qcd_rule.ensures

pub returns-in-93 : goal.returns-in-93
returns-in-93 c = rw (c.in-93.is, qcc_rules) c.qcc_rule.ensures

pub returns-in-94 : goal.returns-in-94
returns-in-94 c = rw (c.in-94.is, rgn_rules) c.rgn_rule.ensures

pub returns-in-95 : goal.returns-in-95
returns-in-95 c = rw (c.in-95.is, poc_rules) c.poc_rule.ensures

pub returns-in_default : goal.returns-in_default
returns-in_default c =
    rw (plain_rules c.args.comps c.args.code c.args.body.now (record {
      siz = grind (arith, nat_tests, c.in_default);
      cod = grind (arith, nat_tests, c.in_default);
      coc = grind (arith, nat_tests, c.in_default);
      qcd = grind (arith, nat_tests, c.in_default);
      qcc = grind (arith, nat_tests, c.in_default);
      rgn = grind (arith, nat_tests, c.in_default);
      poc = grind (arith, nat_tests, c.in_default);
    })) c.lengths_rule.ensures
