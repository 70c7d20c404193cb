use Rattle.std.proofs.Common.{◌+◌, ◌∷◌, ◌∙◌, ℕ, List, drop, length, map, string_bytes, sym, ap, subst, arith}
use Rattle.std.proofs.lemmas.List.{drop_all, length-map}
use Rattle.act_job.specs.Reading.{scripts_reading}
use Rattle.act_job.specs.Scripts.{AreScriptsOf, Scripts, no_scripts}
use Rattle.act_job.proofs.Going.{GoesOn, go-end, go-first, go-halts, go-next}
use Rattle.act_engine.proofs.Halts.{wants}
use Rattle.act_job.proofs.Lists.{mapped-next}
use Rattle.act_job.proofs.Scripting.{none-are}
use Rattle.act_job.proofs.scripts.read_scripts.Goals as goal

pub returns-in_err-scripts-clause-read : goal.returns-in_err-scripts-clause-read
returns-in_err-scripts-clause-read g c =
    wants (scripts_reading c.args.portfolio.now (no_scripts c.args.portfolio.now) (map string_bytes c.args.names.now)) _ c.from_residual.result c.from_residual.ensures.1

pub loop-name-init : goal.loop-name-init
loop-name-init g c =
    let p = c.args.portfolio.now in
    let names : List (List ℕ) = map string_bytes c.args.names.now in
    let start = c.in_ok-scripts.ensures in
    record {
      lines = subst (λ (s : Scripts). AreScriptsOf p s) (sym start) (none-are p);
      count = ap (λ (s : Scripts). length s.lists) start;
      goes = subst (λ (s : Scripts). GoesOn p (no_scripts p) names (g.F.Files.world c.args.files.now) s names (g.F.Files.world c.args.files.now)) (sym start) (go-first p (no_scripts p) names (g.F.Files.world c.args.files.now));
    }

pub loop-name-preserved : goal.loop-name-preserved
loop-name-preserved g c =
    let p = c.args.portfolio.now in
    let names : List (List ℕ) = map string_bytes c.args.names.now in
    let i = c.loop-name.name-index in
    let next = mapped-next string_bytes c.args.names.now i c.name-item.result c.loop-name-test.true c.name-item.is in
    record {
      lines = c.in_ok-scripts-2.ensures.lines;
      count = c.in_ok-scripts-2.ensures.count ∙ ap (λ (n : ℕ). n + 1) c.loop-name.invariant.count;
      goes = go-next p (no_scripts p) names _ c.loop-name.scripts (drop i names) _ c.loop-name.invariant.goes c.as_str.result.now (drop (i + 1) names) (next ∙ ap (λ (n : List ℕ). n ∷ drop (i + 1) names) (sym c.as_str.ensures.value))
          c.in_ok-scripts-2.scripts _ c.in_ok-scripts-2.ensures.read;
    }

pub returns-in_err-scripts-2-clause-read : goal.returns-in_err-scripts-2-clause-read
returns-in_err-scripts-2-clause-read g c =
    let p = c.args.portfolio.now in
    let names : List (List ℕ) = map string_bytes c.args.names.now in
    let i = c.loop-name.name-index in
    let next = mapped-next string_bytes c.args.names.now i c.name-item.result c.loop-name-test.true c.name-item.is in
    go-halts p (no_scripts p) names _ c.loop-name.scripts (drop i names) _ c.loop-name.invariant.goes c.as_str.result.now (drop (i + 1) names) (next ∙ ap (λ (n : List ℕ). n ∷ drop (i + 1) names) (sym c.as_str.ensures.value))
    c.in_err-scripts-2.field-0.0 c.from_residual-in_err-scripts-2.result _ c.from_residual-in_err-scripts-2.ensures.1 c.in_err-scripts-2.ensures.read

pub returns-clause-read : goal.returns-clause-read
returns-clause-read g c =
    let p = c.args.portfolio.now in
    let names : List (List ℕ) = map string_bytes c.args.names.now in
    let i = c.loop-name.name-index in
    go-end p (no_scripts p) names _ c.loop-name.scripts (drop i names) _ c.loop-name.invariant.goes
    (drop_all i names (omega (arith, c.loop-name-test.false, length-map c.args.names.now string_bytes)))
