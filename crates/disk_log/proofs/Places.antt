-- Blocks of an image, byte by byte.
use Rattle.std.proofs.Common.{◌≡◌, ℕ, zero, suc, ◌+◌, ◌-◌, ◌*◌, ◌<◌, ◌≤◌, Bool, true, false, List, ◌++◌, ◌⊎◌, inl, inr, length, take, drop, get_or, ap, sym, ◌∙◌, arith, refl, subst}
use Rattle.std.specs.Prelude.{if◌then◌else◌, nat_lt, ◌/◌}
use Rattle.std.proofs.lemmas.Bool.{lt-ltb, ltb-true, cases_lt}
use Rattle.std.proofs.lemmas.List.{ext_get_or, length-append, length-drop, length-take-le, get_or_append_left, get_or-append_right, get_or-take, get_or-drop, drop-drop, drop-take, take-take, take_at, drop_at, take_all, drop_all, take-append-drop, take-append-le, drop-append-le, append_assoc, append-nil}
use Rattle.byteorder.specs.Numbers.{little_from-take}
use Rattle.byteorder.specs.Endian.{little_from}
use Rattle.disk_log.specs.Records.{sum_at}
use Rattle.disk_log.proofs.Readings.{is_empty}
use Rattle.std.proofs.Math.Seq.{take-add}
use Rattle.block_device.specs.Contents.{replaced}
use Rattle.disk_log.specs.Checkpoints.{entry_number, bytes_of_entry, with_block, with_blocks, HasBlock, KeepsOthers, image_sum, IsImageLen, IsCheckpointBody}
use Rattle.disk_log.proofs.Growing.{not-true}

pub number-front : (i : ℕ) (xs ys : List ℕ) → i + 4 ≤ length xs → little_from i 4 (xs ++ ys) ≡ little_from i 4 xs
number-front i xs ys long =
    sym (little_from-take i 4 (length xs) (xs ++ ys) long)
    ∙ ap (λ v. little_from i 4 v) (take_at xs ys (length xs) refl)

module _ (at : ℕ) (xs bytes : List ℕ) (fits : at + length bytes ≤ length xs) where
  front : length (take at xs) ≡ at
  front = length-take-le at xs (omega (arith, fits))

  both-len : length (take at xs ++ bytes) ≡ at + length bytes
  both-len = length-append (take at xs) bytes ∙ ap (λ n. n + length bytes) front

  pub length-replaced : length (replaced xs at bytes) ≡ length xs
  length-replaced = length-append (take at xs ++ bytes) (drop (at + length bytes) xs) ∙ omega (arith, fits, both-len, length-drop (at + length bytes) xs)

  pub replaced-before : (i : ℕ) → i < at → get_or (replaced xs at bytes) i 0 ≡ get_or xs i 0
  replaced-before i low =
      get_or_append_left (take at xs ++ bytes) (drop (at + length bytes) xs) 0 i (omega (arith, low, both-len))
      ∙ (get_or_append_left (take at xs) bytes 0 i (omega (arith, low, front)) ∙ get_or-take at xs i 0 low)

  pub replaced-there : (i : ℕ) → at ≤ i → i < at + length bytes → get_or (replaced xs at bytes) i 0 ≡ get_or bytes (i - at) 0
  replaced-there i low high =
      get_or_append_left (take at xs ++ bytes) (drop (at + length bytes) xs) 0 i (omega (arith, high, both-len))
      ∙ get_or-append_right (take at xs) bytes at i 0 front low

  pub replaced-behind : (i : ℕ) → at + length bytes ≤ i → get_or (replaced xs at bytes) i 0 ≡ get_or xs i 0
  replaced-behind i high =
      get_or-append_right (take at xs ++ bytes) (drop (at + length bytes) xs) (at + length bytes) i 0 both-len high
      ∙ (get_or-drop (at + length bytes) xs (i - (at + length bytes)) 0 ∙ ap (λ k. get_or xs k 0) (omega (arith, high)))

  pub keeps-others : KeepsOthers at (length bytes) xs (replaced xs at bytes)
  keeps-others = record { size = length-replaced; before = replaced-before; behind = replaced-behind }

-- an entry is one of a block that the image has, in which a byte is
pub record In (len i : ℕ) (b : List ℕ) : Type 0 where
  pub fits : 4096 * entry_number b + 4096 ≤ len
  pub low : 4096 * entry_number b ≤ i
  pub high : i < 4096 * entry_number b + 4096

unfoldable pub Covers : ℕ → List ℕ → ℕ → ℕ → Type 0
Covers zero b len i = ⊥
Covers (suc k) b len i = In len i b ⊎ Covers k (drop 4104 b) len i

pub block-len : (b : List ℕ) → 4104 ≤ length b → length (bytes_of_entry b) ≡ 4096
block-len b long = length-take-le 4096 (drop 8 b) (rw (length-drop 8 b) (omega (arith, long)))

chosen : (t : Bool) (x y : List ℕ) → t ≡ true → (if t then x else y) ≡ x
chosen true x y e = refl
chosen false x y e = cc

other : (t : Bool) (x y : List ℕ) → t ≡ false → (if t then x else y) ≡ y
other true x y e = cc
other false x y e = refl

pub with-it : (image b : List ℕ) → 4096 * entry_number b + 4096 ≤ length image → with_block image b ≡ replaced image (4096 * entry_number b) (bytes_of_entry b)
with-it image b fits = chosen (nat_lt (4096 * entry_number b + 4095) (length image)) _ image (lt-ltb (4096 * entry_number b + 4095) (length image) (omega (arith, fits)))

pub without-it : (image b : List ℕ) → length image < 4096 * entry_number b + 4096 → with_block image b ≡ image
without-it image b out = other (nat_lt (4096 * entry_number b + 4095) (length image)) (replaced image (4096 * entry_number b) (bytes_of_entry b)) image
    (not-true (nat_lt (4096 * entry_number b + 4095) (length image)) (λ e. let h = ltb-true (4096 * entry_number b + 4095) (length image) e in absurd (omega (arith, h, out))))

pub with-len : (image b : List ℕ) → 4104 ≤ length b → length (with_block image b) ≡ length image
with-len image b long = elim (cases_lt (length image) (4096 * entry_number b + 4096)) [
  | inl out ↦ ap (λ v. length v) (without-it image b out)
  | inr fits ↦ ap (λ v. length v) (with-it image b fits) ∙ length-replaced (4096 * entry_number b) image (bytes_of_entry b) (rw (block-len b long) fits)
]

pub placed-len : (k : ℕ) (b image : List ℕ) → 4104 * k ≤ length b → length (with_blocks k b image) ≡ length image
unfolding with_blocks
placed-len zero b image long = refl
placed-len (suc k) b image long =
    placed-len k (drop 4104 b) (with_block image b) (rw (length-drop 4104 b) (omega (arith, long)))
    ∙ with-len image b (omega (arith, long))

-- a byte in a block that is put is the block's
same-in : (xs ys b : List ℕ) (i : ℕ) → length xs ≡ length ys → 4104 ≤ length b → In (length xs) i b → get_or (with_block xs b) i 0 ≡ get_or (with_block ys b) i 0
same-in xs ys b i len long r =
    let size = block-len b long in
    let fits = r.fits in
    let high = r.high in
    let there : 4096 * entry_number b + length (bytes_of_entry b) ≤ length xs = omega (arith, size, fits) in
    let here : 4096 * entry_number b + length (bytes_of_entry b) ≤ length ys = omega (arith, size, fits, len) in
    let below : i < 4096 * entry_number b + length (bytes_of_entry b) = omega (arith, size, high) in
    ap (λ v. get_or v i 0) (with-it xs b fits)
    ∙ (replaced-there (4096 * entry_number b) xs (bytes_of_entry b) there i r.low below
    ∙ (sym (replaced-there (4096 * entry_number b) ys (bytes_of_entry b) here i r.low below)
    ∙ ap (λ v. get_or v i 0) (sym (with-it ys b (omega (arith, fits, len))))))

pub keeps-block : (xs b : List ℕ) → 4104 ≤ length b → 4096 * entry_number b + 4096 ≤ length xs → KeepsOthers (4096 * entry_number b) 4096 xs (with_block xs b)
keeps-block xs b long fits =
    let size = block-len b long in
    let there : 4096 * entry_number b + length (bytes_of_entry b) ≤ length xs = omega (arith, size, fits) in
    record {
      size = with-len xs b long;
      before = λ i low. ap (λ v. get_or v i 0) (with-it xs b fits) ∙ replaced-before (4096 * entry_number b) xs (bytes_of_entry b) there i low;
      behind = λ i high. ap (λ v. get_or v i 0) (with-it xs b fits) ∙ replaced-behind (4096 * entry_number b) xs (bytes_of_entry b) there i (omega (arith, size, high));
    }

same-put : (xs ys b : List ℕ) (i : ℕ) → length xs ≡ length ys → 4104 ≤ length b → get_or xs i 0 ≡ get_or ys i 0 → get_or (with_block xs b) i 0 ≡ get_or (with_block ys b) i 0
same-put xs ys b i len long e = elim (cases_lt (length xs) (4096 * entry_number b + 4096)) [
  | inl out ↦ ap (λ v. get_or v i 0) (without-it xs b out) ∙ (e ∙ ap (λ v. get_or v i 0) (sym (without-it ys b (omega (arith, out, len)))))
  | inr fits ↦ elim (cases_lt i (4096 * entry_number b)) [
    | inl low ↦ (keeps-block xs b long fits).before i low ∙ (e ∙ sym ((keeps-block ys b long (omega (arith, fits, len))).before i low))
    | inr low ↦ elim (cases_lt i (4096 * entry_number b + 4096)) [
      | inl high ↦ same-in xs ys b i len long (record { fits = fits; low = low; high = high })
      | inr high ↦ (keeps-block xs b long fits).behind i high ∙ (e ∙ sym ((keeps-block ys b long (omega (arith, fits, len))).behind i high))
    ]
  ]
]

-- What is placed doesn't depend on the bytes where a block comes.
pub placed-same : (k : ℕ) (b xs ys : List ℕ) → 4104 * k ≤ length b → length xs ≡ length ys
    → ((i : ℕ) → (get_or xs i 0 ≡ get_or ys i 0) ⊎ Covers k b (length xs) i) → with_blocks k b xs ≡ with_blocks k b ys
unfolding with_blocks Covers
placed-same zero b xs ys long len each = ext_get_or 0 xs ys len (λ i low. elim (each i) [ inl e ↦ e | inr c ↦ absurd c ])
placed-same (suc k) b xs ys long len each =
    let one : 4104 ≤ length b = omega (arith, long) in
    let same : length (with_block xs b) ≡ length xs = with-len xs b one in
    placed-same k (drop 4104 b) (with_block xs b) (with_block ys b) (rw (length-drop 4104 b) (omega (arith, long)))
    (same ∙ (len ∙ sym (with-len ys b one)))
    (λ i. elim (each i) [
      | inl e ↦ inl (same-put xs ys b i len one e)
      | inr c ↦ elim c [ inl r ↦ inl (same-in xs ys b i len one r) | inr more ↦ inr (rw same more) ]
    ])

-- a block of the checkpoint covers its bytes
pub covered : (k : ℕ) (b : List ℕ) (number : ℕ) (bytes : List ℕ) (len i : ℕ) → HasBlock k b number bytes → 4096 * number + 4096 ≤ len → 4096 * number ≤ i → i < 4096 * number + 4096 → Covers k b len i
unfolding HasBlock Covers
covered zero b number bytes len i has fits low high = absurd has
covered (suc k) b number bytes len i has fits low high = elim has [
  | inl h ↦ inl (let e = h.0 in record { fits = omega (arith, e, fits); low = omega (arith, e, low); high = omega (arith, e, high) })
  | inr more ↦ inr (covered k (drop 4104 b) number bytes len i more fits low high)
]

-- Any bytes may be in a block that the checkpoint has.
pub placed-over : (k : ℕ) (b : List ℕ) (number : ℕ) (bytes xs ys : List ℕ) → 4104 * k ≤ length b → HasBlock k b number bytes → 4096 * number + 4096 ≤ length xs
    → KeepsOthers (4096 * number) 4096 xs ys → with_blocks k b ys ≡ with_blocks k b xs
placed-over k b number bytes xs ys long has fits keeps =
    let size = keeps.size in
    placed-same k b ys xs long size (λ i. elim (cases_lt i (4096 * number)) [
      | inl low ↦ inl (keeps.before i low)
      | inr low ↦ elim (cases_lt i (4096 * number + 4096)) [
        | inl high ↦ inr (covered k b number bytes (length ys) i has (omega (arith, size, fits)) low high)
        | inr high ↦ inl (keeps.behind i high)
      ]
    ])

-- an entry has its block, and a later one is one of all
pub has-first : (k : ℕ) (b : List ℕ) → HasBlock (suc k) b (entry_number b) (bytes_of_entry b)
unfolding HasBlock
has-first k b = inl (refl, refl)

pub has-later : (j k : ℕ) (b : List ℕ) (number : ℕ) (bytes : List ℕ) → HasBlock k (drop (4104 * j) b) number bytes → HasBlock (j + k) b number bytes
unfolding HasBlock
has-later zero k b number bytes has = (let e : k ≡ zero + k = omega arith in subst (λ n. HasBlock n b number bytes) e has)
has-later (suc j) k b number bytes has =
    let e : suc (j + k) ≡ suc j + k = omega arith in
    let f : drop (4104 * suc j) b ≡ drop (4104 * j) (drop 4104 b) = sym (drop-drop (4104 * j) 4104 b ∙ ap (λ n. drop n b) (omega arith)) in
    let more : HasBlock k (drop (4104 * j) (drop 4104 b)) number bytes = subst (λ v. HasBlock k v number bytes) f has in
    let all : HasBlock (suc (j + k)) b number bytes = inr (has-later j k (drop 4104 b) number bytes more) in
    subst (λ n. HasBlock n b number bytes) e all

-- the blocks from the j-th on, of which there is one
pub placed-next : (j k : ℕ) (b image : List ℕ) → with_blocks (suc k) (drop (4104 * j) b) image ≡ with_blocks k (drop (4104 * (j + 1)) b) (with_block image (drop (4104 * j) b))
unfolding with_blocks
placed-next j k b image = ap (λ v. with_blocks k v (with_block image (drop (4104 * j) b))) (drop-drop 4104 (4104 * j) b ∙ ap (λ n. drop n b) (omega arith))

-- only the first bytes of an entry say something
pub number-taken : (b : List ℕ) → entry_number (take 4104 b) ≡ entry_number b
number-taken b = little_from-take 0 4 4104 b (omega arith)

pub block-taken : (b : List ℕ) → bytes_of_entry (take 4104 b) ≡ bytes_of_entry b
block-taken b = ap (λ v. take 4096 v) (drop-take 8 4096 b) ∙ take-take 4096 4096 (drop 8 b) (omega arith)

pub with-taken : (image b : List ℕ) → with_block image (take 4104 b) ≡ with_block image b
with-taken image b =
    ap (λ n. if nat_lt (4096 * n + 4095) (length image) then replaced image (4096 * n) (bytes_of_entry (take 4104 b)) else image) (number-taken b)
    ∙ ap (λ v. if nat_lt (4096 * entry_number b + 4095) (length image) then replaced image (4096 * entry_number b) v else image) (block-taken b)

-- one more block of those in memory
pub put-next : (j count : ℕ) (entries image image' start : List ℕ) → j < count → image' ≡ with_block image (take 4104 (drop (4104 * j) entries))
    → with_blocks (count - j) (drop (4104 * j) entries) image ≡ start → with_blocks (count - (j + 1)) (drop (4104 * (j + 1)) entries) image' ≡ start
put-next j count entries image image' start low put so =
    let more : count - j ≡ suc (count - (j + 1)) = omega (arith, low) in
    ap (λ v. with_blocks (count - (j + 1)) (drop (4104 * (j + 1)) entries) v) (put ∙ with-taken image (drop (4104 * j) entries))
    ∙ (sym (placed-next j (count - (j + 1)) entries image)
    ∙ (ap (λ n. with_blocks n (drop (4104 * j) entries) image) (sym more) ∙ so))

pub put-all : (j count : ℕ) (b image : List ℕ) → count ≤ j → with_blocks (count - j) b image ≡ image
unfolding with_blocks
put-all j count b image high = (let none : count - j ≡ 0 = omega (arith, high) in ap (λ n. with_blocks n b image) none)

-- an entry behind others
with-front : (image b e : List ℕ) → 4104 ≤ length b → with_block image (b ++ e) ≡ with_block image b
with-front image b e long =
    sym (with-taken image (b ++ e)) ∙ (ap (λ v. with_block image v) (take-append-le 4104 b e long) ∙ with-taken image b)

pub placed-more : (c : ℕ) (b e image : List ℕ) → length b ≡ 4104 * c → with_blocks (suc c) (b ++ e) image ≡ with_block (with_blocks c b image) e
unfolding with_blocks
placed-more zero b e image len = ap (λ v. with_block image (v ++ e)) (is_empty b (omega (arith, len)))
placed-more (suc c) b e image len =
    let long : 4104 ≤ length b = omega (arith, len) in
    ap (λ v. with_blocks (suc c) v (with_block image (b ++ e))) (drop-append-le 4104 b e long)
    ∙ (ap (λ v. with_blocks (suc c) (drop 4104 b ++ e) v) (with-front image b e long)
    ∙ placed-more c (drop 4104 b) e (with_block image b) (length-drop 4104 b ∙ omega (arith, len)))

-- the first blocks of one image, and behind them those of another
abbrev pub mixed : ℕ → List ℕ → List ℕ → List ℕ
mixed k was is = take (4096 * k) is ++ drop (4096 * k) was

further : (k : ℕ) (was is : List ℕ) → 4096 * (k + 1) ≤ length is
    → mixed (k + 1) was is ≡ take (4096 * k) is ++ (take 4096 (drop (4096 * k) is) ++ drop 4096 (drop (4096 * k) was))
further k was is fits =
    let e : 4096 * (k + 1) ≡ 4096 * k + 4096 = omega arith in
    ap (λ n. take n is ++ drop n was) e
    ∙ (ap (λ v. v ++ drop (4096 * k + 4096) was) (take-add (4096 * k) 4096 is)
    ∙ (append_assoc (take (4096 * k) is) (take 4096 (drop (4096 * k) is)) (drop (4096 * k + 4096) was)
    ∙ ap (λ v. take (4096 * k) is ++ (take 4096 (drop (4096 * k) is) ++ v)) (sym (drop-drop 4096 (4096 * k) was))))

pub mixed-same : (k : ℕ) (was is : List ℕ) → 4096 * (k + 1) ≤ length is → take 4096 (drop (4096 * k) is) ≡ take 4096 (drop (4096 * k) was)
    → mixed (k + 1) was is ≡ mixed k was is
mixed-same k was is fits same =
    further k was is fits
    ∙ ap (λ v. take (4096 * k) is ++ v) (ap (λ v. v ++ drop 4096 (drop (4096 * k) was)) same ∙ take-append-drop 4096 (drop (4096 * k) was))

-- what an entry of the next block makes of them
pub mixed-next : (k : ℕ) (was is head : List ℕ) → length was ≡ length is → 4096 * (k + 1) ≤ length is → length head ≡ 8 → little_from 0 4 head ≡ k
    → with_block (mixed k was is) (head ++ take 4096 (drop (4096 * k) is)) ≡ mixed (k + 1) was is
mixed-next k was is head same fits long number =
    let block : List ℕ = take 4096 (drop (4096 * k) is) in
    let front : List ℕ = take (4096 * k) is in
    let back : List ℕ = drop (4096 * k) was in
    let size : length block ≡ 4096 = length-take-le 4096 (drop (4096 * k) is) (rw (length-drop (4096 * k) is) (omega (arith, fits))) in
    let front-len : length front ≡ 4096 * k = length-take-le (4096 * k) is (omega (arith, fits)) in
    let back-len = length-drop (4096 * k) was in
    let all-len = length-append front back in
    let n : entry_number (head ++ block) ≡ k =
    sym (little_from-take 0 4 8 (head ++ block) (omega arith)) ∙ (ap (λ v. little_from 0 4 v) (take_at head block 8 long) ∙ number) in
    let b : bytes_of_entry (head ++ block) ≡ block = ap (λ v. take 4096 v) (drop_at head block 8 long) ∙ take_all 4096 block (omega (arith, size)) in
    with-it (mixed k was is) (head ++ block) (omega (arith, n, all-len, front-len, back-len, same, fits))
    ∙ (ap (λ v. replaced (mixed k was is) (4096 * v) (bytes_of_entry (head ++ block))) n
    ∙ (ap (λ v. replaced (mixed k was is) (4096 * k) v) b
    ∙ (ap (λ v. v ++ block ++ drop (4096 * k + length block) (front ++ back)) (take_at front back (4096 * k) front-len)
    ∙ (ap (λ v. front ++ block ++ v) (sym (drop-drop (length block) (4096 * k) (front ++ back)) ∙ (ap (λ v. drop (length block) v) (drop_at front back (4096 * k) front-len) ∙ ap (λ v. drop v back) size))
    ∙ (append_assoc front block (drop 4096 back) ∙ sym (further k was is fits))))))

pub mixed-all : (k : ℕ) (was is : List ℕ) → length was ≡ length is → length is ≤ 4096 * k → mixed k was is ≡ is
mixed-all k was is same high =
    ap (λ v. take (4096 * k) is ++ v) (drop_all (4096 * k) was (omega (arith, same, high)))
    ∙ (append-nil (take (4096 * k) is) ∙ take_all (4096 * k) is high)

-- The entries so far, behind the sum: with them placed the image has its first k blocks.
pub record Collected (was is body : List ℕ) (k : ℕ) : Type 0 where
  pub count : ℕ
  pub few : count ≤ k
  pub len : length body ≡ 8 + 4104 * count
  pub sum : sum_at 0 body ≡ image_sum is
  pub blocks : with_blocks count (drop 8 body) was ≡ mixed k was is

pub collected-same : (was is body : List ℕ) (k : ℕ) → Collected was is body k → 4096 * (k + 1) ≤ length is → take 4096 (drop (4096 * k) is) ≡ take 4096 (drop (4096 * k) was)
    → Collected was is body (k + 1)
collected-same was is body k c fits same = (let few = c.few in record {
  count = c.count;
  few = omega (arith, few);
  len = c.len;
  sum = c.sum;
  blocks = c.blocks ∙ sym (mixed-same k was is fits same);
})

pub collected-next : (was is body head : List ℕ) (k : ℕ) → Collected was is body k → length was ≡ length is → 4096 * (k + 1) ≤ length is → length head ≡ 8 → little_from 0 4 head ≡ k
    → Collected was is (body ++ (head ++ take 4096 (drop (4096 * k) is))) (k + 1)
collected-next was is body head k c same fits long number =
    let few = c.few in
    let len = c.len in
    let block : List ℕ = take 4096 (drop (4096 * k) is) in
    let size : length block ≡ 4096 = length-take-le 4096 (drop (4096 * k) is) (rw (length-drop (4096 * k) is) (omega (arith, fits))) in
    let entry-len = length-append head block in
    let all-len = length-append body (head ++ block) in
    record {
      count = suc c.count;
      few = omega (arith, few);
      len = omega (arith, len, all-len, entry-len, long, size);
      sum =
          ap (λ v. (v, little_from 4 4 (body ++ (head ++ block)))) (number-front 0 body (head ++ block) (omega (arith, len)))
          ∙ (ap (λ v. (little_from 0 4 body, v)) (number-front 4 body (head ++ block) (omega (arith, len))) ∙ c.sum);
      blocks =
          ap (λ v. with_blocks (suc c.count) v was) (drop-append-le 8 body (head ++ block) (omega (arith, len)))
          ∙ (placed-more c.count (drop 8 body) (head ++ block) was (length-drop 8 body ∙ omega (arith, len))
          ∙ (ap (λ v. with_block v (head ++ block)) c.blocks ∙ mixed-next k was is head same fits long number));
    }

pub collected-all : (was is body : List ℕ) (k : ℕ) → Collected was is body k → length was ≡ length is → IsImageLen (length is) → length is / 4096 ≤ k → k ≤ length is / 4096
    → IsCheckpointBody was is body
collected-all was is body k c same size high low =
    let whole = size.blocks in
    let small = size.few in
    let few = c.few in
    let len = c.len in
    let count : (length body - 8) / 4104 ≡ c.count = omega (arith, len) in
    record {
      len = omega (arith, count, len);
      few = omega (arith, count, few, low, small);
      sum = c.sum;
      blocks = ap (λ n. with_blocks n (drop 8 body) was) count ∙ (c.blocks ∙ mixed-all k was is same (omega (arith, whole, high)));
    }
