-- What the loops have written so far.
use Rattle.std.proofs.Common.{◌≡◌, ℕ, ◌+◌, ◌-◌, ◌*◌, ◌/◌, ◌%◌, ◌^◌, ◌<◌, List, [], ◌∷◌, ◌++◌, length, map, take, get_or, filter, true, false, refl, sym, ap, ◌∙◌, append_assoc, append-nil, arith, ◌≢◌, zero, suc, ℤ, pos, ◌+ℤ◌}
use Rattle.std.specs.Borrow.{Bor}
use Rattle.std.specs.Prelude.{codes, ◌==◌, if◌then◌else◌}
use Rattle.std.proofs.lemmas.Bool.Decides.{nat_tests}
use Rattle.std.proofs.lemmas.List.{length-map, length-take-le, map_more, map_push}
use Rattle.std.proofs.lemmas.List.Concat.{flat_map-append}
use Rattle.std.proofs.lemmas.List.Elements.{filter-append}
use Rattle.act_gen.specs.Draws.{draw, next_state, state}
use Rattle.act_gen.specs.Json.{after_commas, with_commas}
use Rattle.act_gen.specs.Members.{comma_after, member_text}
use Rattle.act_gen.specs.declared.members.Value.{Value}
use Rattle.act_gen.specs.Portfolio.{drawn_loan, loan, numbers, swap}
use Rattle.act_gen.specs.Script.{ask_behind, drawn_lines, rate_line, script_text, start}
use Rattle.std.specs.List.{flat_map}
use Rattle.act_gen.proofs.States.{later_state}
use Rattle.act_gen.proofs.Texts.{after_commas-append, length-map_numbers, numbers-next, with_commas-next}

-- texts with commas behind a text, and one more of them
pub one_more : (before now behind after : List ℕ) (texts : List (List ℕ)) (text : List ℕ) (n : ℕ) → now ≡ before ++ with_commas texts → behind ≡ now ++ comma_after n → n ≡ length texts → after ≡ behind ++ text
    → after ≡ before ++ with_commas (texts ++ text ∷ [])
one_more before now behind after texts text n written comma count put =
    rw (put, comma, written, count, with_commas-next texts text) (simp append_assoc)

-- one member more
pub one_member_more : (before now behind after : List ℕ) (members : List (Bor (List ℕ) × Value)) (place : ℕ) (d : Bor (List ℕ) × Value) → place < length members
    → now ≡ before ++ with_commas (map member_text (take place members)) → behind ≡ now ++ comma_after place → after ≡ behind ++ member_text (get_or members place d)
    → after ≡ before ++ with_commas (map member_text (take (place + 1) members))
one_member_more before now behind after members place d within written comma put =
    let count : length (map member_text (take place members)) ≡ place = length-map (take place members) member_text ∙ length-take-le place members (omega arith) in
    rw (map_more member_text members place d within) (one_more before now behind after (map member_text (take place members)) (member_text (get_or members place d)) place written comma (sym count) put)

-- the first i loans stand behind the text before, and their draws have been made
pub record HasLoans (n i : ℕ) (before after : List ℕ) (last : ℕ) : Type 0 where
  pub written : after ≡ before ++ with_commas (map (drawn_loan n) (numbers i))
  pub drawn : last ≡ state n (2 * i)

-- the next loan is made of the numbers that are drawn next
next_loan : (n i : ℕ) → drawn_loan n (i + 1) ≡ loan (i + 1) (1000 + next_state (state n (2 * i)) / 2 ^ 33 % 9000) (100 + next_state (next_state (state n (2 * i))) / 2 ^ 33 % 500)
unfolding drawn_loan draw
next_loan n i =
    let first : 2 * (i + 1) - 1 ≡ 2 * i + 1 = omega arith in
    let second : 2 * (i + 1) ≡ 2 * i + 1 + 1 = omega arith in
    rw (first, second, later_state n (2 * i + 1), later_state n (2 * i)) refl

two_states_later : (n k later : ℕ) → later ≡ k + 1 + 1 → state n later ≡ next_state (next_state (state n k))
two_states_later n k later is = rw (is, later_state n (k + 1), later_state n k) refl

-- one loan more
pub one_loan_more : (n i : ℕ) (before now behind after : List ℕ) (last first second notional rate : ℕ) → HasLoans n i before now last → behind ≡ now ++ comma_after i
    → first ≡ next_state last → notional ≡ first / 2 ^ 33 % 9000 → second ≡ next_state first → rate ≡ second / 2 ^ 33 % 500 → after ≡ behind ++ loan (i + 1) (1000 + notional) (100 + rate)
    → HasLoans n (i + 1) before after second
one_loan_more n i before now behind after last first second notional rate has comma e drawn f drawn_too put =
    let one : first ≡ next_state (state n (2 * i)) = e ∙ ap next_state has.drawn in
    let two : second ≡ next_state (next_state (state n (2 * i))) = f ∙ ap next_state one in
    let text : after ≡ behind ++ drawn_loan n (i + 1) = rw (next_loan n i, sym two, sym one, sym drawn, sym drawn_too) put in
    record {
      written = rw (numbers-next i, map_push (drawn_loan n) (numbers i) (i + 1)) (one_more before now behind after (map (drawn_loan n) (numbers i)) (drawn_loan n (i + 1)) i has.written comma (sym (length-map_numbers (drawn_loan n) i)) text);
      drawn = two ∙ sym (two_states_later n (2 * i) (2 * (i + 1)) (omega arith));
    }

-- a swap more, where 3 divides the next number
pub one_swap_more : (before now behind after : List ℕ) (i : ℕ) → (i + 1) % 3 ≡ 0 → now ≡ before ++ after_commas (map swap (filter (λ k. k % 3 == 0) (numbers i)))
    → behind ≡ now ++ codes "," → after ≡ behind ++ swap (i + 1) → after ≡ before ++ after_commas (map swap (filter (λ k. k % 3 == 0) (numbers (i + 1))))
one_swap_more before now behind after i divides written comma put =
    let third : ((i + 1) % 3 == 0) ≡ true = grind (arith, nat_tests) in
    rw (put, comma, written, numbers-next i, filter-append, third, map_push swap (filter (λ k. k % 3 == 0) (numbers i)) (i + 1), after_commas-append (map swap (filter (λ k. k % 3 == 0) (numbers i))) (swap (i + 1) ∷ [])) (simp (append_assoc, append-nil))

-- no swap more elsewhere
pub no_swap_more : (before now : List ℕ) (i : ℕ) → (i + 1) % 3 ≢ 0 → now ≡ before ++ after_commas (map swap (filter (λ k. k % 3 == 0) (numbers i)))
    → now ≡ before ++ after_commas (map swap (filter (λ k. k % 3 == 0) (numbers (i + 1))))
no_swap_more before now i apart written =
    let other : ((i + 1) % 3 == 0) ≡ false = grind (arith, nat_tests) in
    rw (numbers-next i, filter-append, other, append-nil) written

-- the lines of the first j rates stand behind the text before, and their draws have been made
pub record HasRates (n j : ℕ) (before after : List ℕ) (last : ℕ) : Type 0 where
  pub written : after ≡ before ++ flat_map (drawn_lines n) (numbers j)
  pub drawn : last ≡ state n (2 * n + 2 * j)

first_rate : (j : ℕ) → (j + 1 == 1) ≡ (j == 0)
first_rate zero = refl
first_rate (suc j) = grind (arith, nat_tests)

-- the next rate's lines are made of the numbers that are drawn next
next_lines : (n j first second : ℕ) → first ≡ next_state (state n (2 * n + 2 * j)) → second ≡ next_state first
    → drawn_lines n (j + 1) ≡ rate_line (if j == 0 then start else start +ℤ pos (first / 2 ^ 33 % 3650)) (100 + second / 2 ^ 33 % 400) ++ ask_behind (j + 1)
unfolding drawn_lines draw
next_lines n j first second e f =
    let day : 2 * n + (2 * (j + 1) - 1) ≡ 2 * n + 2 * j + 1 = omega arith in
    let value : 2 * n + 2 * (j + 1) ≡ 2 * n + 2 * j + 1 + 1 = omega arith in
    rw (day, value, later_state n (2 * n + 2 * j + 1), later_state n (2 * n + 2 * j), f, e, first_rate j) refl

-- one rate more
pub one_rate_more : (n j : ℕ) (before now behind after : List ℕ) (last first second days rate : ℕ) (day : ℤ) → HasRates n j before now last → first ≡ next_state last → days ≡ first / 2 ^ 33 % 3650
    → day ≡ (if j == 0 then start else start +ℤ pos days) → second ≡ next_state first → rate ≡ second / 2 ^ 33 % 400
    → behind ≡ now ++ rate_line day (100 + rate) → after ≡ behind ++ ask_behind (j + 1) → HasRates n (j + 1) before after second
one_rate_more n j before now behind after last first second days rate day has e drawn is f drawn_too put asks =
    let one : first ≡ next_state (state n (2 * n + 2 * j)) = e ∙ ap next_state has.drawn in
    record {
      written = rw (asks, put, has.written, numbers-next j, flat_map-append (drawn_lines n) (numbers j) ((j + 1) ∷ []), next_lines n j first second one f, is, drawn, drawn_too) (simp (append_assoc, append-nil));
      drawn = f ∙ ap next_state one ∙ sym (two_states_later n (2 * n + 2 * j) (2 * n + 2 * (j + 1)) (omega arith));
    }

-- all rates
pub all_rates : (n j : ℕ) (before after : List ℕ) (last : ℕ) → j ≡ 24 → HasRates n j before after last → after ≡ before ++ script_text n
unfolding script_text
all_rates n j before after last is has = has.written ∙ ap (λ k. before ++ flat_map (drawn_lines n) (numbers k)) is
