use Rattle.std.proofs.Common.{◌≡◌, Some, rules, tests, sym, ◌∙◌}
use Rattle.act_json.specs.Quoting.{quoted}
use Rattle.json.specs.Lex.{tokens}
use Rattle.act_script.specs.Form.{form_of}
use Rattle.act_script.specs.Plain.{event_tokens, plain_event, plain_rate, rate_tokens}
use Rattle.act_script.proofs.PlainEvents.{event_of_line}
use Rattle.act_script.proofs.PlainRates.{found_too, rate_of_line}
use Rattle.act_script.proofs.plain.plain_form.Goals as goal

pub returns-in-Some : goal.returns-in-Some
returns-in-Some c =
    let line = c.args.line.now in
    let texts = c.in-Some.texts in
    let same : quoted line ≡ line = c.is_quoted.ensures (search (rules, tests)) in
    let read : tokens line ≡ rate_tokens texts.code.now texts.date.now texts.value.now = rw c.in-Ok.ensures.cases.0 at (sym c.in-Ok-new.ensures.ok ∙ c.in-Some.ensures) in
    found_too (λ form. plain_rate texts.code.now texts.date.now texts.value.now ≡ Some form) (λ form. form_of line ≡ Some form)
    (λ form is. rate_of_line line texts.code.now texts.date.now texts.value.now form c.in-Ok.ensures.cases.1 same read is) c.rate_of.result c.rate_of.ensures

pub returns-in-Some-event_tokens : goal.returns-in-Some-event_tokens
returns-in-Some-event_tokens c =
    let line = c.args.line.now in
    let texts = c.in-Some-event_tokens.texts in
    let same : quoted line ≡ line = c.is_quoted.ensures (search (rules, tests)) in
    let read : tokens line ≡ event_tokens texts.contract.now texts.kind.now texts.date.now texts.value.now = rw c.in-Ok.ensures.cases.0 at (sym c.in-Ok-new.ensures.ok ∙ c.in-Some-event_tokens.ensures) in
    found_too (λ form. plain_event texts.contract.now texts.kind.now texts.date.now texts.value.now ≡ Some form) (λ form. form_of line ≡ Some form)
    (λ form is. event_of_line line texts.contract.now texts.kind.now texts.date.now texts.value.now form c.in-Ok.ensures.cases.1 same read is) c.event_of.result c.event_of.ensures
