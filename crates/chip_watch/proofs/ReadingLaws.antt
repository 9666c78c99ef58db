-- READs of a memory that grows.
use Rattle.std.proofs.Common.{◌≡◌, ℕ, zero, suc, ◌+◌, ◌-◌, ◌*◌, ◌≤◌, List, [], ◌∷◌, ◌++◌, length, take, drop, refl, sym, ap, ◌∙◌, subst, arith, append_assoc, append-nil, Option}
use Rattle.std.proofs.lemmas.List.{take-append-le, length-append, length-drop, take_all}
use Rattle.chip_model.specs.Exchanges.{Exchange, Exchanged, sends_of, sizes_of, turned}
use Rattle.chip_model.specs.declared.programmer.Turn.{Turn}
use Rattle.chip_model.proofs.ExchangeLaws.{exchanged_twice}
use Rattle.chip_watch.specs.Changes.{with_place}
use Rattle.chip_watch.specs.Reading.{ArePieces, piece_reads, read_of, received_of}
use Rattle.chip_watch.proofs.AheadLaws.{first_list, rest_list, first_size, rest_sizes, no_list}

drop_within : (n : ℕ) (m h : List ℕ) → n ≤ length m → drop n (m ++ h) ≡ drop n m ++ h
drop_within zero m h le = refl
drop_within (suc n) [] h le = absurd (omega (arith, le))
drop_within (suc n) (x ∷ m) h le = drop_within n m h (omega (arith, le))

same_read : (m h : List ℕ) (at size : ℕ) → at + size ≤ length m → read_of (m ++ h) at size ≡ read_of m at size
same_read m h at size fits =
    let left : length (drop at m) ≡ length m - at = length-drop at m in
    ap (λ (r : List ℕ). record { sent = with_place 3 at; received = r })
    (ap (take size) (drop_within at m h (omega (arith, fits))) ∙ take-append-le size (drop at m) h (omega (arith, fits, left)))

same_reads : (m h : List ℕ) (n : ℕ) → 4096 * n ≤ length m → piece_reads (m ++ h) 0 n ≡ piece_reads m 0 n
same_reads m h zero fits = refl
same_reads m h (suc n) fits =
    ap (λ (es : List Exchange). es ++ (read_of (m ++ h) (0 + 4096 * n) 4096 ∷ [])) (same_reads m h n (omega (arith, fits)))
    ∙ ap (λ (e : Exchange). piece_reads m 0 n ++ (e ∷ [])) (same_read m h (0 + 4096 * n) 4096 (omega (arith, fits)))

dropped : (n : ℕ) (m : List ℕ) → length m ≤ n → drop n m ≡ []
dropped zero [] le = refl
dropped zero (x ∷ m) le = absurd (omega (arith, le))
dropped (suc n) [] le = refl
dropped (suc n) (x ∷ m) le = dropped n m (omega (arith, le))

last_read : (m h : List ℕ) (n : ℕ) → length m ≡ 4096 * n → length h ≡ 4096 → read_of (m ++ h) (0 + 4096 * n) 4096 ≡ record { sent = with_place 3 (4096 * n); received = h }
last_read m h n long piece =
    let none : drop (4096 * n) m ≡ [] = dropped (4096 * n) m (omega (arith, long)) in
    let none_more : 0 + 4096 * n ≡ 4096 * n = omega arith in
    ap (λ (at : ℕ). read_of (m ++ h) at 4096) none_more
    ∙ ap (λ (r : List ℕ). record { sent = with_place 3 (4096 * n); received = r })
    (ap (take 4096) (drop_within (4096 * n) m h (omega (arith, long)) ∙ ap (λ (x : List ℕ). x ++ h) none) ∙ take_all 4096 h (omega (arith, piece)))

-- a turn more reads one more piece
one_more_piece : (m : List ℕ) (n : ℕ) (t : Turn) → length m ≡ 4096 * n → t.send.items ≡ with_place 3 (4096 * n) → length t.recv.items ≡ 4096
    → piece_reads m 0 n ++ (record { sent = t.send.items; received = t.recv.items } ∷ []) ≡ piece_reads (m ++ t.recv.items) 0 (suc n)
one_more_piece m n t long sends size =
    ap (λ (s : List ℕ). piece_reads m 0 n ++ (record { sent = s; received = t.recv.items } ∷ [])) sends
    ∙ (ap (λ (e : Exchange). piece_reads m 0 n ++ (e ∷ [])) (sym (last_read m t.recv.items n long size))
    ∙ ap (λ (es : List Exchange). es ++ (read_of (m ++ t.recv.items) (0 + 4096 * n) 4096 ∷ [])) (sym (same_reads m t.recv.items n (omega (arith, long)))))

-- READs of pieces behind a memory read the memory with what they received
pieces_read : (ts : List Turn) (m : List ℕ) (n : ℕ) → length m ≡ 4096 * n → ArePieces n ts
    → piece_reads m 0 n ++ turned ts ≡ piece_reads (m ++ received_of ts) 0 (n + length ts)
pieces_read [] m n long are =
    let none : n ≡ n + 0 = omega arith in
    append-nil (piece_reads m 0 n) ∙ (ap (λ (x : List ℕ). piece_reads x 0 n) (sym (append-nil m)) ∙ ap (λ (k : ℕ). piece_reads (m ++ []) 0 k) none)
pieces_read (t ∷ ts) m n long are =
    let e : Exchange = record { sent = t.send.items; received = t.recv.items } in
    let all : length (m ++ t.recv.items) ≡ length m + length t.recv.items = length-append m t.recv.items in
    let size : length t.recv.items ≡ 4096 = are.1 in
    let longer : length (m ++ t.recv.items) ≡ 4096 * suc n = omega (arith, all, long, size) in
    let up : suc n + length ts ≡ n + suc (length ts) = omega arith in
    sym (append_assoc (piece_reads m 0 n) (e ∷ []) (turned ts))
    ∙ (ap (λ (es : List Exchange). es ++ turned ts) (one_more_piece m n t long are.0 are.1)
    ∙ (pieces_read ts (m ++ t.recv.items) (suc n) longer are.2
    ∙ (ap (λ (x : List ℕ). piece_reads x 0 (suc n + length ts)) (append_assoc m t.recv.items (received_of ts))
    ∙ ap (λ (k : ℕ). piece_reads (m ++ (t.recv.items ++ received_of ts)) 0 k) up)))

received_long : (ts : List Turn) (n : ℕ) → ArePieces n ts → length (received_of ts) ≡ 4096 * length ts
received_long [] n are = refl
received_long (t ∷ ts) n are =
    let all : length (t.recv.items ++ received_of ts) ≡ length t.recv.items + length (received_of ts) = length-append t.recv.items (received_of ts) in
    let size : length t.recv.items ≡ 4096 = are.1 in
    let rest : length (received_of ts) ≡ 4096 * length ts = received_long ts (suc n) are.2 in
    omega (arith, all, size, rest)

-- turns that send and receive as much are READs of the same pieces
pub same_pieces : (ts us : List Turn) (n : ℕ) → sends_of us ≡ sends_of ts → sizes_of us ≡ sizes_of ts → ArePieces n ts → ArePieces n us × (length us ≡ length ts)
same_pieces [] [] n sends sizes are = (tt, refl)
same_pieces [] (u ∷ us) n sends sizes are = absurd (no_list _ _ (sym sends))
same_pieces (t ∷ ts) [] n sends sizes are = absurd (no_list _ _ sends)
same_pieces (t ∷ ts) (u ∷ us) n sends sizes are =
    let (rest, long) = same_pieces ts us (suc n) (rest_list _ _ _ _ sends) (rest_sizes _ _ _ _ sizes) are.2 in
    ((first_list _ _ _ _ sends ∙ are.0, first_size _ _ _ _ sizes ∙ are.1, rest), ap suc long)

-- a turn more at the end
pub one_more_turn : (ts : List Turn) (t : Turn) (n : ℕ) → ArePieces n ts → t.send.items ≡ with_place 3 (4096 * (n + length ts)) → length t.recv.items ≡ 4096 → ArePieces n (ts ++ (t ∷ []))
one_more_turn [] t n are sends size =
    let none : n + 0 ≡ n = omega arith in
    (sends ∙ ap (λ (k : ℕ). with_place 3 (4096 * k)) none, size, tt)
one_more_turn (x ∷ ts) t n are sends size =
    let up : n + suc (length ts) ≡ suc n + length ts = omega arith in
    (are.0, are.1, one_more_turn ts t (suc n) are.2 (sends ∙ ap (λ (k : ℕ). with_place 3 (4096 * k)) up) size)

received_append : (ts us : List Turn) → received_of (ts ++ us) ≡ received_of ts ++ received_of us
received_append [] us = refl
received_append (t ∷ ts) us = ap (λ (x : List ℕ). t.recv.items ++ x) (received_append ts us) ∙ sym (append_assoc t.recv.items (received_of ts) (received_of us))

pub received_more : (ts : List Turn) (t : Turn) → received_of (ts ++ (t ∷ [])) ≡ received_of ts ++ t.recv.items
received_more ts t = received_append ts (t ∷ []) ∙ ap (λ (x : List ℕ). received_of ts ++ x) (append-nil t.recv.items)

-- the memory has grown by turns that were exchanged
pub record Grows (old mid new : Option (List Exchange)) (m whole : List ℕ) (n count : ℕ) : Type 0 where
  pub long : length whole ≡ 4096 * (n + count)
  pub read : Exchanged old mid (piece_reads m 0 n) → Exchanged old new (piece_reads whole 0 (n + count))

pub grown : (old mid new : Option (List Exchange)) (m whole : List ℕ) (n count : ℕ) (asked answered : List Turn) → length m ≡ 4096 * n → ArePieces n asked → length asked ≡ count
    → sends_of answered ≡ sends_of asked → sizes_of answered ≡ sizes_of asked → Exchanged mid new (turned answered) → whole ≡ m ++ received_of answered
    → Grows old mid new m whole n count
grown old mid new m whole n count asked answered long are counts sends sizes two joined =
    let (pieces, same) = same_pieces asked answered n sends sizes are in
    let all : length whole ≡ length m + length (received_of answered) = ap length joined ∙ length-append m (received_of answered) in
    let more : length (received_of answered) ≡ 4096 * length answered = received_long answered n pieces in
    let number : length answered ≡ count = same ∙ counts in
    record {
      long = omega (arith, all, more, number, long);
      read = λ one.
          subst (λ (w : List ℕ). Exchanged old new (piece_reads w 0 (n + count))) (sym joined)
          (subst (λ (k : ℕ). Exchanged old new (piece_reads (m ++ received_of answered) 0 (n + k))) number
          (subst (λ (es : List Exchange). Exchanged old new es) (pieces_read answered m n long pieces)
          (exchanged_twice old mid new (piece_reads m 0 n) (turned answered) one two)));
    }
