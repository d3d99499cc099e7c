use Rattle.device_values.proofs.Prelude.{arith, ap, length, html_all_short, json_all_short}
use Rattle.device_values.proofs.spelling.spell.Goals as goal

pub returns-in-Json-clause-short : goal.returns-in-Json-clause-short
returns-in-Json-clause-short c = omega (arith, json_all_short c.args.text.now, ap length c.spell_json.ensures, c.requires)

pub returns-in-Html-clause-short : goal.returns-in-Html-clause-short
returns-in-Html-clause-short c = omega (arith, html_all_short c.args.text.now, ap length c.spell_html.ensures, c.requires)
