-- The rows of a run in chunks.
use Rattle.std.proofs.Common.{◌≡◌, ℕ, zero, suc, ◌+◌, ◌-◌, ◌*◌, ◌/◌, ◌<◌, ◌≤◌, min, List, [], ◌∷◌, ◌++◌, length, map, take, drop, slice_get, ◌⊎◌, inl, inr, refl, sym, ap, ap₂, ◌∙◌, arith}
use Rattle.std.proofs.Math.Seq.{drop-append-add, drop-append_seam, take-append-add}
use Rattle.std.proofs.lemmas.List.{append-nil, append_assoc, length-append, length-map, length-take-le, map-append, take-append-drop, take-append-le, take-map, take-take}
use Rattle.std.proofs.lemmas.List.Elements.{All-head, All-tail}
use Rattle.std.specs.List.{All}
use Rattle.act_model.proofs.Lists.{get_back, get_front, take_parts}
use Rattle.act_model.specs.Rows.{AreChunks, next_rows, rows_of}
use Rattle.act_model.specs.Run.{Cells, cells_of}
use Rattle.act_model.specs.declared.run.Row.{Row}

-- it has as many rows as a chunk holds
abbrev pub is_full : List Row → Type 0
is_full chunk = length chunk ≡ 64

-- how many rows full chunks have
pub length_full : (chunks : List (List Row)) → All is_full chunks → length (rows_of chunks) ≡ 64 * length chunks
length_full [] full = refl
length_full (chunk ∷ chunks) full =
    omega (arith, length-append chunk (rows_of chunks), All-head is_full chunk chunks full, length_full chunks (All-tail is_full chunk chunks full))

-- the first rows, as many as some full chunks have
pub take_chunks : (chunks : List (List Row)) (last : List Row) (k : ℕ) → All is_full chunks → k ≤ length chunks → take (64 * k) (rows_of chunks ++ last) ≡ rows_of (take k chunks)
take_chunks chunks last zero full within = refl
take_chunks [] last (suc k) full within = absurd (omega (arith, within))
take_chunks (chunk ∷ chunks) last (suc k) full within =
    let long = All-head is_full chunk chunks full in
    ap (take (64 * suc k)) (append_assoc chunk (rows_of chunks) last)
    ∙ ap (λ n. take n (chunk ++ (rows_of chunks ++ last))) (omega (arith, long))
    ∙ take-append-add chunk (rows_of chunks ++ last) (64 * k)
    ∙ ap (λ more. chunk ++ more) (take_chunks chunks last k (All-tail is_full chunk chunks full) (omega arith))

-- the rows behind them begin with those of the next chunk
pub drop_chunks : (chunks : List (List Row)) (last : List Row) (k : ℕ) → All is_full chunks → k ≤ length chunks → (more : List Row) × (drop (64 * k) (rows_of chunks ++ last) ≡ next_rows (slice_get chunks k) last ++ more)
drop_chunks [] last zero full within = ([], sym (append-nil last))
drop_chunks [] last (suc k) full within = absurd (omega (arith, within))
drop_chunks (chunk ∷ chunks) last zero full within = (rows_of chunks ++ last, append_assoc chunk (rows_of chunks) last)
drop_chunks (chunk ∷ chunks) last (suc k) full within =
    let long = All-head is_full chunk chunks full in
    let rest = drop_chunks chunks last k (All-tail is_full chunk chunks full) (omega arith) in (
      rest.0,
      ap (drop (64 * suc k)) (append_assoc chunk (rows_of chunks) last)
          ∙ ap (λ n. drop n (chunk ++ (rows_of chunks ++ last))) (omega (arith, long))
          ∙ drop-append-add chunk (rows_of chunks ++ last) (64 * k)
          ∙ rest.1,
    )

-- how many there are: a chunk's, or the last
pub next_length : (chunks : List (List Row)) (last : List Row) (k : ℕ) → All is_full chunks → k ≤ length chunks → ((k < length chunks) × (length (next_rows (slice_get chunks k) last) ≡ 64)) ⊎ ((k ≡ length chunks) × (length (next_rows (slice_get chunks k) last) ≡ length last))
next_length [] last zero full within = inr (refl, refl)
next_length [] last (suc k) full within = absurd (omega (arith, within))
next_length (chunk ∷ chunks) last zero full within = inl (omega arith, All-head is_full chunk chunks full)
next_length (chunk ∷ chunks) last (suc k) full within = elim (next_length chunks last k (All-tail is_full chunk chunks full) (omega arith)) [
  | inl chunk ↦ inl (omega (arith, chunk.0), chunk.1)
  | inr last ↦ inr (omega (arith, last.0), last.1)
]

module _ (full : List (List Row)) (last : List Row) (are : AreChunks full last) (n k : ℕ) (chunks : k ≡ min (n / 64) (length full)) where
  -- a place is behind the chunks before it, and among the rows of the next
  pub behind_chunks : 64 * k ≤ n
  behind_chunks = omega (arith, chunks)

  total : length (rows_of full ++ last) ≡ 64 * length full + length last
  total = omega (arith, length-append (rows_of full) last, length_full full are.each)

  pub within_next : n ≤ length (rows_of full ++ last) → n - k * 64 ≤ length (next_rows (slice_get full k) last)
  within_next within = elim (next_length full last k are.each (omega (arith, chunks))) [
    | inl chunk ↦ omega (arith, chunks, chunk.0, chunk.1)
    | inr rest ↦ omega (arith, chunks, rest.0, rest.1, total, within)
  ]

  pub among_next : n < length (rows_of full ++ last) → n - k * 64 < length (next_rows (slice_get full k) last)
  among_next within = elim (next_length full last k are.each (omega (arith, chunks))) [
    | inl chunk ↦ omega (arith, chunks, chunk.0, chunk.1)
    | inr rest ↦ omega (arith, chunks, rest.0, rest.1, total, within)
  ]

  pub next_is_short : length (next_rows (slice_get full k) last) ≤ 64
  next_is_short = elim (next_length full last k are.each (omega (arith, chunks))) [
    | inl chunk ↦ omega (arith, chunk.1)
    | inr rest ↦ omega (arith, rest.1, are.short)
  ]

  -- the row at a place
  pub get_next : (d : Row) → n < length (rows_of full ++ last) → slice_get (rows_of full ++ last) n ≡ slice_get (next_rows (slice_get full k) last) (n - k * 64)
  get_next d within =
      let rows = rows_of full ++ last in
      let front = take (64 * k) rows in
      let next = next_rows (slice_get full k) last in
      let rest = drop_chunks full last k are.each (omega (arith, chunks)) in
      let long : length front ≡ 64 * k = length-take-le (64 * k) rows (omega (arith, behind_chunks, within)) in
      ap (λ rows. slice_get rows n) (sym (take-append-drop (64 * k) rows))
      ∙ get_back front (drop (64 * k) rows) n d (omega (arith, long, behind_chunks))
      ∙ ap (λ place. slice_get (drop (64 * k) rows) place) (omega (arith, long))
      ∙ ap (λ rows. slice_get rows (n - k * 64)) rest.1
      ∙ get_front next rest.0 (n - k * 64) d (among_next within)

  -- the first rows, so many
  pub take_next : n ≤ length (rows_of full ++ last) → rows_of (take k full) ++ take (n - k * 64) (next_rows (slice_get full k) last) ≡ take n (rows_of full ++ last)
  take_next within =
      let rows = rows_of full ++ last in
      let next = next_rows (slice_get full k) last in
      let rest = drop_chunks full last k are.each (omega (arith, chunks)) in
      ap (λ front. front ++ take (n - k * 64) next) (sym (take_chunks full last k are.each (omega (arith, chunks))))
      ∙ ap (λ back. take (64 * k) rows ++ back)
      (sym (take-append-le (n - k * 64) next rest.0 (within_next within)) ∙ ap (take (n - k * 64)) (sym rest.1)
      ∙ ap (λ m. take m (drop (64 * k) rows)) (omega arith))
      ∙ take_parts (64 * k) n rows behind_chunks

-- rows from the begin of a chunk on, at most as many as it holds
module _ (full : List (List Row)) (last : List Row) (are : AreChunks full last) (n k e : ℕ) (begin : n ≡ 64 * k) (some : zero < e) (few : e ≤ 64) (within : n + e ≤ length (rows_of full ++ last)) where
  chunk_there : k ≤ length full
  chunk_there =
      omega (arith, begin, some, within, are.short, length-append (rows_of full) last, length_full full are.each)

  -- they stand in that chunk
  pub chunk_within : e ≤ length (next_rows (slice_get full k) last)
  chunk_within = elim (next_length full last k are.each chunk_there) [
    | inl chunk ↦ omega (arith, few, chunk.1)
    | inr rest ↦ omega (arith, begin, within, rest.0, rest.1, length-append (rows_of full) last, length_full full are.each)
  ]

  -- and behind the rows before it
  pub take_on : (j : ℕ) → j ≤ e → take (n + j) (rows_of full ++ last) ≡ take n (rows_of full ++ last) ++ take j (next_rows (slice_get full k) last)
  take_on j fewer =
      let rows = rows_of full ++ last in
      let next = next_rows (slice_get full k) last in
      let rest = drop_chunks full last k are.each chunk_there in
      sym (take_parts n (n + j) rows (omega arith))
      ∙ ap (λ back. take n rows ++ back)
      (ap (λ m. take m (drop n rows)) (omega arith) ∙ ap (λ n. take j (drop n rows)) begin ∙ ap (take j) rest.1 ∙ take-append-le j next rest.0 (omega (arith, fewer, chunk_within)))

-- two lists of rows that are printed alike so far, and on
pub alike_on : (full full' : List (List Row)) (last last' : List Row) (n k j : ℕ) → take (n + j) (rows_of full ++ last) ≡ take n (rows_of full ++ last) ++ take j (next_rows (slice_get full k) last)
    → take (n + j) (rows_of full' ++ last') ≡ take n (rows_of full' ++ last') ++ take j (next_rows (slice_get full' k) last')
    → map cells_of (take j (next_rows (slice_get full k) last)) ≡ map cells_of (take j (next_rows (slice_get full' k) last'))
    → map cells_of (take n (rows_of full ++ last)) ≡ map cells_of (take n (rows_of full' ++ last'))
    → map cells_of (take (n + j) (rows_of full ++ last)) ≡ map cells_of (take (n + j) (rows_of full' ++ last'))
alike_on full full' last last' n k j on on' next before =
    let rows = rows_of full ++ last in
    let rows' = rows_of full' ++ last' in
    ap (map cells_of) on ∙ map-append cells_of (take n rows) (take j (next_rows (slice_get full k) last))
    ∙ ap₂ (λ (a b : List Cells). a ++ b) before next
    ∙ sym (ap (map cells_of) on' ∙ map-append cells_of (take n rows') (take j (next_rows (slice_get full' k) last')))

-- rows that are printed alike, and fewer of them
pub alike_front : (rows rows' : List Row) (n m : ℕ) → n ≤ m → map cells_of (take m rows) ≡ map cells_of (take m rows') → map cells_of (take n rows) ≡ map cells_of (take n rows')
alike_front rows rows' n m fewer alike =
    ap (map cells_of) (sym (take-take n m rows fewer)) ∙ sym (take-map cells_of n (take m rows)) ∙ ap (take n) alike ∙ take-map cells_of n (take m rows') ∙ ap (map cells_of) (take-take n m rows' fewer)

-- and those of them in one chunk
pub alike_back : (rows rows' next next' : List Row) (n m o : ℕ) → m ≡ n + o → n ≤ length rows → n ≤ length rows' → take (n + o) rows ≡ take n rows ++ take o next → take (n + o) rows' ≡ take n rows' ++ take o next'
    → map cells_of (take m rows) ≡ map cells_of (take m rows') → map cells_of (take o next) ≡ map cells_of (take o next')
alike_back rows rows' next next' n m o is within within' on on' alike =
    let front = map cells_of (take n rows) in
    let front' = map cells_of (take n rows') in
    let long : length front ≡ n = length-map (take n rows) cells_of ∙ length-take-le n rows within in
    let long' : length front' ≡ n = length-map (take n rows') cells_of ∙ length-take-le n rows' within' in
    let whole : front ++ map cells_of (take o next) ≡ front' ++ map cells_of (take o next') =
    sym (map-append cells_of (take n rows) (take o next)) ∙ ap (map cells_of) (sym on) ∙ ap (λ k. map cells_of (take k rows)) (sym is) ∙ alike ∙ ap (λ k. map cells_of (take k rows')) is ∙ ap (map cells_of) on'
    ∙ map-append cells_of (take n rows') (take o next') in
    sym (drop-append_seam front (map cells_of (take o next))) ∙ ap₂ (λ k (cells : List Cells). drop k cells) (long ∙ sym long') whole ∙ drop-append_seam front' (map cells_of (take o next'))
