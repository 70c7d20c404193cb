use Rattle.std.proofs.Common.{◌≡◌, ◌+◌, ◌-◌, ◌*◌, ◌/◌, ◌<◌, ◌≤◌, List, ◌++◌, length, map, take, slice_get, sym, ap, subst, ◌∙◌, arith}
use Rattle.std.specs.Arc.{arc_value}
use Rattle.act_model.specs.Rows.{next_rows, rows_of}
use Rattle.act_model.specs.Run.{cells_of}
use Rattle.act_model.specs.declared.run.Row.{Row}
use Rattle.act_model.proofs.Chunks.{alike_back, alike_front, alike_on, chunk_within, take_on}
use Rattle.act_model.proofs.rows.Rows.alike_until.Goals as goal

pub count_alike-requires-clause-here : goal.count_alike-requires-clause-here
count_alike-requires-clause-here c =
    let full = map arc_value c.self.inside.full.items in
    let last = c.self.inside.last in
    let full' = map arc_value c.other.inside.full.items in
    let last' = c.other.inside.last in
    let k = c.args.from / 64 in
    let n = k * 64 in
    let e = c.args.end - n in
    let begin : n ≡ 64 * k = omega arith in
    let some : 0 < e = omega (arith, c.requires.some) in
    let few : e ≤ 64 = omega (arith, c.requires.chunk) in
    let within : n + e ≤ length (rows_of full ++ last) = omega (arith, c.requires.some, c.requires.here, ap length c.self.view_is) in
    let within' : n + e ≤ length (rows_of full' ++ last') = omega (arith, c.requires.some, c.requires.there, ap length c.other.view_is) in
    let next : c.behind-here.result.now ≡ next_rows (slice_get full k) last = c.behind-here.ensures ∙ ap (λ full. next_rows (slice_get (map arc_value full) k) last) c.deref.ensures.value in
    let next' : c.behind-there.result.now ≡ next_rows (slice_get full' k) last' = c.behind-there.ensures ∙ ap (λ full. next_rows (slice_get (map arc_value full) k) last') c.deref-2.ensures.value in
    subst (λ (rows : List Row). e ≤ length rows) (sym next) (chunk_within full last c.self.invariant n k e begin some few within)

pub count_alike-requires-clause-there : goal.count_alike-requires-clause-there
count_alike-requires-clause-there c =
    let full = map arc_value c.self.inside.full.items in
    let last = c.self.inside.last in
    let full' = map arc_value c.other.inside.full.items in
    let last' = c.other.inside.last in
    let k = c.args.from / 64 in
    let n = k * 64 in
    let e = c.args.end - n in
    let begin : n ≡ 64 * k = omega arith in
    let some : 0 < e = omega (arith, c.requires.some) in
    let few : e ≤ 64 = omega (arith, c.requires.chunk) in
    let within : n + e ≤ length (rows_of full ++ last) = omega (arith, c.requires.some, c.requires.here, ap length c.self.view_is) in
    let within' : n + e ≤ length (rows_of full' ++ last') = omega (arith, c.requires.some, c.requires.there, ap length c.other.view_is) in
    let next : c.behind-here.result.now ≡ next_rows (slice_get full k) last = c.behind-here.ensures ∙ ap (λ full. next_rows (slice_get (map arc_value full) k) last) c.deref.ensures.value in
    let next' : c.behind-there.result.now ≡ next_rows (slice_get full' k) last' = c.behind-there.ensures ∙ ap (λ full. next_rows (slice_get (map arc_value full) k) last') c.deref-2.ensures.value in
    subst (λ (rows : List Row). e ≤ length rows) (sym next') (chunk_within full' last' c.other.invariant n k e begin some few within')

pub count_alike-requires-clause-before : goal.count_alike-requires-clause-before
count_alike-requires-clause-before c =
    let full = map arc_value c.self.inside.full.items in
    let last = c.self.inside.last in
    let full' = map arc_value c.other.inside.full.items in
    let last' = c.other.inside.last in
    let k = c.args.from / 64 in
    let n = k * 64 in
    let e = c.args.end - n in
    let begin : n ≡ 64 * k = omega arith in
    let some : 0 < e = omega (arith, c.requires.some) in
    let few : e ≤ 64 = omega (arith, c.requires.chunk) in
    let within : n + e ≤ length (rows_of full ++ last) = omega (arith, c.requires.some, c.requires.here, ap length c.self.view_is) in
    let within' : n + e ≤ length (rows_of full' ++ last') = omega (arith, c.requires.some, c.requires.there, ap length c.other.view_is) in
    let next : c.behind-here.result.now ≡ next_rows (slice_get full k) last = c.behind-here.ensures ∙ ap (λ full. next_rows (slice_get (map arc_value full) k) last) c.deref.ensures.value in
    let next' : c.behind-there.result.now ≡ next_rows (slice_get full' k) last' = c.behind-there.ensures ∙ ap (λ full. next_rows (slice_get (map arc_value full) k) last') c.deref-2.ensures.value in
    let alike : map cells_of (take c.args.from (rows_of full ++ last)) ≡ map cells_of (take c.args.from (rows_of full' ++ last')) =
    ap (λ (rows : List Row). map cells_of (take c.args.from rows)) c.self.view_is ∙ c.requires.before ∙ ap (λ (rows : List Row). map cells_of (take c.args.from rows)) (sym c.other.view_is) in
    let o = c.args.from - n in
    let fewer : o ≤ e = omega (arith, c.requires.some) in
    ap (λ (rows : List Row). map cells_of (take o rows)) next
    ∙ alike_back (rows_of full ++ last) (rows_of full' ++ last') (next_rows (slice_get full k) last) (next_rows (slice_get full' k) last') n c.args.from o (omega arith) (omega (arith, within)) (omega (arith, within'))
    (take_on full last c.self.invariant n k e begin some few within o fewer) (take_on full' last' c.other.invariant n k e begin some few within' o fewer) alike
    ∙ ap (λ (rows : List Row). map cells_of (take o rows)) (sym next')

pub returns-clause-alike : goal.returns-clause-alike
returns-clause-alike c =
    let full = map arc_value c.self.inside.full.items in
    let last = c.self.inside.last in
    let full' = map arc_value c.other.inside.full.items in
    let last' = c.other.inside.last in
    let k = c.args.from / 64 in
    let n = k * 64 in
    let e = c.args.end - n in
    let begin : n ≡ 64 * k = omega arith in
    let some : 0 < e = omega (arith, c.requires.some) in
    let few : e ≤ 64 = omega (arith, c.requires.chunk) in
    let within : n + e ≤ length (rows_of full ++ last) = omega (arith, c.requires.some, c.requires.here, ap length c.self.view_is) in
    let within' : n + e ≤ length (rows_of full' ++ last') = omega (arith, c.requires.some, c.requires.there, ap length c.other.view_is) in
    let next : c.behind-here.result.now ≡ next_rows (slice_get full k) last = c.behind-here.ensures ∙ ap (λ full. next_rows (slice_get (map arc_value full) k) last) c.deref.ensures.value in
    let next' : c.behind-there.result.now ≡ next_rows (slice_get full' k) last' = c.behind-there.ensures ∙ ap (λ full. next_rows (slice_get (map arc_value full) k) last') c.deref-2.ensures.value in
    let alike : map cells_of (take c.args.from (rows_of full ++ last)) ≡ map cells_of (take c.args.from (rows_of full' ++ last')) =
    ap (λ (rows : List Row). map cells_of (take c.args.from rows)) c.self.view_is ∙ c.requires.before ∙ ap (λ (rows : List Row). map cells_of (take c.args.from rows)) (sym c.other.view_is) in
    let j = c.count_alike.result in
    ap (λ (rows : List Row). map cells_of (take (n + j) rows)) (sym c.self.view_is)
    ∙ alike_on full full' last last' n k j (take_on full last c.self.invariant n k e begin some few within j c.count_alike.ensures.most) (take_on full' last' c.other.invariant n k e begin some few within' j c.count_alike.ensures.most)
    (ap (λ (rows : List Row). map cells_of (take j rows)) (sym next) ∙ c.count_alike.ensures.alike ∙ ap (λ (rows : List Row). map cells_of (take j rows)) next')
    (alike_front (rows_of full ++ last) (rows_of full' ++ last') n c.args.from (omega arith) alike)
    ∙ ap (λ (rows : List Row). map cells_of (take (n + j) rows)) c.other.view_is
