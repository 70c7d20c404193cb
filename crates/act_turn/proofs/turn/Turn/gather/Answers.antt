use Rattle.std.proofs.Common.{◌≡◌, rules, ap, sym, map, ◌∙◌, ◌∷◌, [], ◌++◌, append_assoc, Some}
use Rattle.std.proofs.lemmas.List.{map-append}
use Rattle.std.proofs.lemmas.List.Elements.{All-pop}
use Rattle.act_turn.specs.Standing.{IsFree}
use Rattle.act_turn.specs.Turn.{member_of}
use Rattle.act_turn.proofs.Steps.{joining}
use Rattle.act_turn.proofs.turn.Turn.gather.Goals as goal

pub join_seat-requires : goal.join_seat-requires
join_seat-requires g c = (search rules, search rules, search rules, search rules, joining g.K.Kept.journal g.K.Kept.author _ _ _ _ _ (search rules) (search rules))

pub loop-pass-preserved : goal.loop-pass-preserved
loop-pass-preserved g c = let popped = c.in-Some.ensures.items in let now = c.join_seat.ensures.2 in let rest = c.pop-in-loop-pass.new.self.items in let was = c.loop-pass.all.me.0.members in record {
  seat = search rules;
  away = ap (λ m. m.0.stage) now ∙ c.loop-pass.invariant.away;
  free = (All-pop (IsFree c.args.self.now.id) c.loop-pass.passes.items rest (Some c.in-Some.pass) popped c.loop-pass.invariant.free).0;
  passes = ap (λ m. map member_of rest ++ m.0.members) now ∙ (ap (λ l. map member_of rest ++ (l ++ was)) c.into_seat.ensures.view.1
      ∙ (sym (append_assoc (map member_of rest) (member_of c.in-Some.pass ∷ []) was) ∙ (ap (λ l. l ++ was) (sym (ap (map member_of) popped ∙ map-append member_of rest (c.in-Some.pass ∷ []))) ∙ c.loop-pass.invariant.passes)));
}

pub into_seat-requires : goal.into_seat-requires
into_seat-requires g c =
    (All-pop (IsFree c.args.self.now.id) c.loop-pass.passes.items c.pop-in-loop-pass.new.self.items (Some c.in-Some.pass) c.in-Some.ensures.items c.loop-pass.invariant.free).1.1

pub loop-pass-init : goal.loop-pass-init
loop-pass-init g c =
    let rest = c.pop.new.self.items in
    let popped : c.args.passes.items ≡ rest ++ c.unwrap.result ∷ [] = search rules in
    record {
      seat = search rules;
      away = search rules;
      free = (All-pop (IsFree c.args.self.now.id) c.args.passes.items rest (Some c.unwrap.result) popped c.requires.free).0;
      passes = ap (λ l. map member_of rest ++ l) c.into_seat-all.ensures.view.1 ∙ sym (ap (map member_of) popped ∙ map-append member_of rest (c.unwrap.result ∷ []));
    }
