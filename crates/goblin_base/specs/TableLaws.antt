-- Laws of the records of a table.
use Rattle.goblin_base.specs.Common.{refl, sym, ap, ◌∙◌, arith, All, range_with_len, flat_map, suc, take_at, drop_at}
use Rattle.goblin_base.specs.Common.{drop-drop, drop-take, take-take}
use Rattle.std.proofs.Common.{◌≡◌, ◌<◌, ◌+◌, ◌*◌, ◌-◌, ℕ, zero, List, [], ◌∷◌, ◌++◌, map, length, take, drop}
use Rattle.std.specs.List.{slice_range}
use Rattle.goblin_base.specs.Record.{records}

-- the slice of the record with an index
unfoldable pub slice : ℕ → List ℕ → ℕ → List ℕ
slice size bytes i = slice_range bytes (i * size) ((i + 1) * size)

-- it is `size` bytes from the record's start on
pub slice-is : (size : ℕ) (bytes : List ℕ) (i : ℕ) → slice size bytes i ≡ take size (drop (i * size) bytes)
unfolding slice
slice-is size bytes i = let e : (i + 1) * size - i * size ≡ size = omega arith in rw e refl

-- the slices after the first are those of the bytes after it
slice-next : (size : ℕ) (bytes : List ℕ) (i : ℕ) → slice size bytes (i + 1) ≡ slice size (drop size bytes) i
slice-next size bytes i =
    let e : size + i * size ≡ (i + 1) * size = omega arith in
    slice-is size bytes (i + 1)
    ∙ ap (λ k. take size (drop k bytes)) (sym e)
    ∙ ap (take size) (sym (drop-drop (i * size) size bytes))
    ∙ sym (slice-is size (drop size bytes) i)

slices-next : {R : Type 0} (size : ℕ) (read : List ℕ → R) (bytes : List ℕ) (i n : ℕ)
    → map (λ i. read (slice size bytes i)) (range_with_len (i + 1) n)
    ≡ map (λ i. read (slice size (drop size bytes) i)) (range_with_len i n)
slices-next size read bytes i zero = refl
slices-next size read bytes i (suc n) = rw (slice-next size bytes i, slices-next size read bytes (i + 1) n) refl

-- a table of 0 records is empty
pub no_records : {R : Type 0} (size : ℕ) (read : List ℕ → R) (n : ℕ) (bytes : List ℕ)
    → n ≡ 0 → records size read n bytes ≡ []
unfolding records
no_records size read n bytes e = rw e refl

-- the first record, and those after it
pub first_record : {R : Type 0} (size : ℕ) (read : List ℕ → R) (n : ℕ) (bytes : List ℕ)
    → 0 < n → records size read n bytes ≡ read (take size bytes) ∷ records size read (n - 1) (drop size bytes)
unfolding records slice
first_record size read zero bytes h = absurd (omega arith)
first_record size read (suc n) bytes h =
    let e : suc n - 1 ≡ n = omega arith in
    let none : 0 * size ≡ 0 = omega arith in
    let front : slice size bytes 0 ≡ take size bytes =
    slice-is size bytes 0 ∙ ap (λ (k : ℕ). take size (drop k bytes)) none in
    rw (e, front) (ap (λ rest. read (take size bytes) ∷ rest) (slices-next size read bytes 0 n))

-- records that are written one after another are read back
pub records-flat_map : {R : Type 0} (size : ℕ) (read : List ℕ → R) (image : R → List ℕ) (Right : R → Type 0)
    → ((x : R) → length (image x) ≡ size) → ((x : R) → Right x → read (image x) ≡ x) → (all : List R) → All Right all
    → records size read (length all) (flat_map image all) ≡ all
unfolding records
records-flat_map size read image Right long back [] right = refl
records-flat_map size read image Right long back (x ∷ all) right =
    let rest = records-flat_map size read image Right long back all (λ k d below. right (suc k) d (omega arith)) in
    let less : suc (length all) - 1 ≡ length all = omega arith in
    let is = back x (right 0 x (omega arith)) in
    first_record size read (suc (length all)) (image x ++ flat_map image all) (omega arith)
    ∙ rw (
      less,
      take_at (image x) (flat_map image all) size (long x),
      drop_at (image x) (flat_map image all) size (long x),
      is,
      rest,
    ) refl

-- the records of a range depend on that range only
pub records-take : {R : Type 0} (size : ℕ) (read : List ℕ → R) (n : ℕ) (bytes : List ℕ)
    → records size read n (take (n * size) bytes) ≡ records size read n bytes
unfolding records
records-take size read zero bytes = refl
records-take size read (suc n) bytes =
    let less : suc n - 1 ≡ n = omega arith in
    let whole : suc n * size ≡ size + n * size = omega arith in
    let front : take size (take (suc n * size) bytes) ≡ take size bytes =
    take-take size (suc n * size) bytes (omega arith) in
    let rest_after : drop size (take (suc n * size) bytes) ≡ take (n * size) (drop size bytes) =
    ap (λ (k : ℕ). drop size (take k bytes)) whole ∙ drop-take size (n * size) bytes in
    first_record size read (suc n) (take (suc n * size) bytes) (omega arith)
    ∙ rw (less, front, rest_after, records-take size read n (drop size bytes))
    (sym (rw less at (first_record size read (suc n) bytes (omega arith))))

-- so bytes that agree on the range hold the same records
pub records-agree : {R : Type 0} (size : ℕ) (read : List ℕ → R) (n : ℕ) (bytes others : List ℕ)
    → take (n * size) bytes ≡ take (n * size) others → records size read n bytes ≡ records size read n others
records-agree size read n bytes others same =
    sym (records-take size read n bytes) ∙ ap (records size read n) same ∙ records-take size read n others
