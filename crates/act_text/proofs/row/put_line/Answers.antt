use Rattle.std.proofs.Common.{List, [], ◌++◌, ℕ, ℤ, ap, ◌∙◌}
use Rattle.std.specs.Prelude.{Option, codes, unwrap_or}
use Rattle.act_num.specs.Decimal.{printed}
use Rattle.act_date.specs.Text.{date_text}
use Rattle.act_text.proofs.PutTogether.{row_put}
use Rattle.act_text.proofs.row.put_line.Goals as goal

pub returns : goal.returns
returns c =
    c.push_bytes.ensures
    ∙ row_put _ _ _ _ _ _ _ _ (date_text c.args.day) _ _ _ _ _ _ _ c.clear.ensures c.push_day.ensures.text c.push_type.ensures.text c.push_name.ensures.text
    (ap (λ (name : Option (List ℕ)). unwrap_or name []) c.currency.ensures.value)
    c.push_number.ensures.text (c.push_known_number.ensures.text ∙ ap (λ (n : ℤ). c.push_number.new.self ++ codes " " ++ printed n) c.requires.notional)
    (c.push_known_number-2.ensures.text ∙ ap (λ (n : ℤ). c.push_known_number.new.self ++ codes " " ++ printed n) c.requires.rate) c.push_number-2.ensures.text
