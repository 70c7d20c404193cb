use Rattle.std.proofs.Common.{◌≡◌, ◌<◌, ◌+◌, ℕ, List, [], ◌∷◌, length, map, arith, refl, ap, sym, subst, ◌∙◌}
use Rattle.std.specs.List.{All}
use Rattle.act_audit.specs.Journal.{as_one_caller, one_script}
use Rattle.act_audit.proofs.ByCaller.{answers-length, one-steps, same-book}
use Rattle.act_audit.proofs.Rights.{on_sheet, whatever}
use Rattle.act_transcript.proofs.JournalAnswers.{answers-few, answers-named, replies-on}
use Rattle.act_audit.proofs.right.write_several.Goals as goal
use Rattle.act_audit.proofs.right.write_several.Goals.{In_ok-answers, In_ok-blocks, In_ok-lists}
use Rattle.act_engine.specs.Writing.{StopsIn, Writes}
use Rattle.act_engine.proofs.Texts.{writes-behind, writes-first, writes-none}
use Rattle.act_eval.specs.Evaluation.{Evaluation}
use Rattle.act_eval.specs.Work.{work_of}
use Rattle.act_io.specs.Page.{written_on}
use Rattle.act_model.specs.Answer.{Reply}
use Rattle.act_model.specs.Journal.{book_of}
use Rattle.act_model.specs.Names.{NameLists}
use Rattle.act_model.specs.Run.{Stream}
use Rattle.act_model.specs.declared.journal.Item.{Item}
use Rattle.act_model.specs.declared.journal.Line.{Line}
use Rattle.act_portfolio.specs.Reading.{Accepted}
use Rattle.act_profile.specs.Answers.{answers_of}
use Rattle.act_transcript.specs.KnownLines.{IsReplyOn}
use Rattle.act_history.specs.History.{replies_of}
use Rattle.act_transcript.specs.Text.{answers_text, heads_text, items_of}
use Rattle.act_transcript.proofs.Texts.{transcript-parts}

-- each item of a journal is its own
same-items : (items : List Item) → map (λ (item : Item). item) items ≡ items
same-items [] = refl
same-items (item ∷ items) = ap (λ (is : List Item). item ∷ is) (same-items items)

heads-same : (names others : NameLists) (items : List Item) (count answers : ℕ) → names ≡ others → count ≡ answers → heads_text names (map (λ (item : Item). item) items) count ≡ heads_text others items answers
heads-same names others items count answers named counted =
    ap (λ (n : NameLists). heads_text n (map (λ (item : Item). item) items) count) named
    ∙ (ap (λ (is : List Item). heads_text others is count) (same-items items) ∙ ap (λ (n : ℕ). heads_text others items n) counted)

-- the steps of the script are those of the journal, as one caller's
steps-are : (lines : List Line) (items : List Item) → lines ≡ one_script items → items_of lines ≡ as_one_caller items
steps-are lines items is = ap items_of is ∙ one-steps 2 items

-- the answers to the asks of the journal, one after the other
given : (g : _) (c : In_ok-answers g) → c.in_ok-answers.answers.items ≡ answers_of c.args.evaluation.now.portfolio.contracts c.args.evaluation.now.names (as_one_caller c.args.items.now)
given g c = c.in_ok-answers.ensures.answers ∙ ap (answers_of c.args.evaluation.now.portfolio.contracts c.args.evaluation.now.names) (steps-are _ c.args.items.now c.requires.script)

-- and caller by caller
replies-are : (g : _) (c : In_ok-lists g) → replies_of c.in_ok-lists.lists.items ≡ answers_of c.args.evaluation.now.portfolio.contracts c.args.evaluation.now.names c.args.items.now
replies-are g c =
    c.in_ok-lists.ensures c.args.evaluation.now.portfolio.contracts c.args.evaluation.now.names
    (c.in_ok-answers.ensures.answers ∙ ap (answers_of c.args.evaluation.now.portfolio.contracts c.args.evaluation.now.names) (steps-are _ c.args.items.now c.requires.script))

-- the lines above them
heads-are : (g : _) (c : In_ok-blocks g) → replies_of c.in_ok-lists.lists.items ≡ answers_of c.args.evaluation.now.portfolio.contracts c.args.evaluation.now.names c.args.items.now
    → heads_text c.evaluation.inside.names.now (map (λ (item : Item). item) c.args.items.now) c.answer_count-count.result
    ≡ heads_text c.args.evaluation.now.names c.args.items.now (length (answers_of c.args.evaluation.now.portfolio.contracts c.args.evaluation.now.names c.args.items.now))
heads-are g c lists =
    heads-same _ _ c.args.items.now _ _ (ap (λ (v : Evaluation). v.names) c.evaluation.view_is)
    (c.answer_count-count.ensures ∙ ap length (ap replies_of c.deref.ensures.value ∙ lists))

pub by_caller-requires-clause-count : goal.by_caller-requires-clause-count
by_caller-requires-clause-count g c =
    ap length (given g (goal.at.by_caller-requires-clause-count g c).In_ok-answers) ∙ answers-length c.args.evaluation.now.portfolio.contracts c.args.evaluation.now.names c.args.items.now

pub returns-in_err-lists-clause-text : goal.returns-in_err-lists-clause-text
returns-in_err-lists-clause-text g c = writes-none c.from_residual-in_err-lists.result _ (on_sheet c.args.sheet.now) c.from_residual-in_err-lists.ensures.1

pub answer_count-count-requires : goal.answer_count-count-requires
answer_count-count-requires g c =
    let e = c.args.evaluation.now in
    let lists = replies-are g (goal.at.answer_count-count-requires g c).In_ok-lists in
    omega (arith, ap length (ap replies_of c.deref.ensures.value ∙ lists), answers-few e.portfolio.contracts e.names c.args.items.now, c.requires.items.few)

pub returns-in_err-blocks-clause-text : goal.returns-in_err-blocks-clause-text
returns-in_err-blocks-clause-text g c = writes-none c.from_residual-in_err-blocks.result _ (on_sheet c.args.sheet.now) c.from_residual-in_err-blocks.ensures.1

pub returns-in_err-write_heads-clause-text : goal.returns-in_err-write_heads-clause-text
returns-in_err-write_heads-clause-text g c =
    let e = c.args.evaluation.now in
    let behind = goal.at.returns-in_err-write_heads-clause-text g c in
    let heads = heads-are g behind.In_ok-blocks (replies-are g behind.In_ok-lists) in
    let stop = c.in_err-write_heads.field-0.0 in
    let part = subst (λ (t : List ℕ). StopsIn stop t (on_sheet c.args.sheet.now) (on_sheet c.write_heads.new.out)) heads c.in_err-write_heads.ensures in
    subst (λ (t : List ℕ). Writes t (on_sheet c.args.sheet.now) c.from_residual-in_err-write_heads.result (on_sheet c.write_heads.new.out)) (sym (transcript-parts e.names c.args.items.now (answers_of e.portfolio.contracts e.names c.args.items.now)))
    (writes-first c.from_residual-in_err-write_heads.result stop _ _ _ _ c.from_residual-in_err-write_heads.ensures.1 part)

pub write_answers-requires-clause-named : goal.write_answers-requires-clause-named
write_answers-requires-clause-named g c =
    let e = c.args.evaluation.now in
    let lists = replies-are g (goal.at.write_answers-requires-clause-named g c).In_ok-lists in
    let names : c.in_ok-blocks.blocks.names.now ≡ e.names = c.in_ok-blocks.ensures.names ∙ ap (λ (v : Evaluation). v.names) c.evaluation.view_is in
    subst (λ (n : NameLists). All (λ (answer : Reply). All (λ (run : ℕ × Stream). run.0 < length n.contracts) answer.runs) (replies_of c.deref-3.result.now)) (sym names)
    (subst (λ (replies : List Reply). All (λ (answer : Reply). All (λ (run : ℕ × Stream). run.0 < length e.names.contracts) answer.runs) replies) (sym (ap replies_of c.deref-3.ensures.value ∙ lists))
    (answers-named e.portfolio.contracts e.names c.args.items.now c.requires.items.known))

pub write_answers-requires-clause-replies : goal.write_answers-requires-clause-replies
write_answers-requires-clause-replies g c =
    let e = c.args.evaluation.now in
    let items = c.args.items.now in
    let board = c.in_ok-answers.board in
    let lists = replies-are g (goal.at.write_answers-requires-clause-replies g c).In_ok-lists in
    let entries = c.in_ok-answers.ensures.entries ∙ (ap book_of (steps-are _ items c.requires.script) ∙ same-book items) in
    subst (λ (replies : List Reply). All (IsReplyOn board) replies) (sym (ap replies_of c.deref-3.ensures.value ∙ lists))
    (subst (λ (p : Accepted). All (IsReplyOn board) (answers_of p.contracts e.names items)) c.in_ok-answers.ensures.portfolio (replies-on board e.names items entries))

pub returns-clause-text : goal.returns-clause-text
returns-clause-text g c =
    let e = c.args.evaluation.now in
    let behind = goal.at.returns-clause-text g c in
    let lists = replies-are g behind.In_ok-lists in
    let replies = answers_of e.portfolio.contracts e.names c.args.items.now in
    let first = subst (λ (t : List ℕ). on_sheet c.write_heads.new.out ≡ written_on (on_sheet c.args.sheet.now) t) (heads-are g behind.In_ok-blocks lists) c.in_ok-write_heads.ensures in
    let blocks : c.in_ok-blocks.blocks.names.now ≡ e.names = c.in_ok-blocks.ensures.names ∙ ap (λ (v : Evaluation). v.names) c.evaluation.view_is in
    let second = subst (λ (n : NameLists). Writes (answers_text n (replies_of c.deref-3.result.now)) (on_sheet c.write_heads.new.out) c.write_answers.result (on_sheet c.write_answers.new.out)) blocks c.write_answers.ensures.text in
    let third = subst (λ (rs : List Reply). Writes (answers_text e.names rs) (on_sheet c.write_heads.new.out) c.write_answers.result (on_sheet c.write_answers.new.out)) (ap replies_of c.deref-3.ensures.value ∙ lists) second in
    subst (λ (t : List ℕ). Writes t (on_sheet c.args.sheet.now) c.write_answers.result (on_sheet c.write_answers.new.out)) (sym (transcript-parts e.names c.args.items.now replies))
    (writes-behind c.write_answers.result (heads_text e.names c.args.items.now (length replies)) (answers_text e.names replies) (on_sheet c.args.sheet.now) (on_sheet c.write_heads.new.out) (on_sheet c.write_answers.new.out) first third)

pub returns-clause-ticked : goal.returns-clause-ticked
returns-clause-ticked g c = whatever c.write_answers.result _ (c.in_ok-answers.ensures.ticked ∙ ap (λ (is : List Item). c.args.steps.now + work_of c.args.evaluation.now.portfolio is) (steps-are _ c.args.items.now c.requires.script))
