-- What is read from a header line is what would be written of it. Assumes nothing.
use Rattle.std.proofs.Common.{◌≡◌, ℕ, ◌≤◌, Bool, true, false, cond, ◌&&◌, leb, ◌⊎◌, List, ◌∷◌, ◌++◌, Some, None, Ok, Err, codes, decimal, Option, Result, refl, ap, ◌∙◌, inl, inr, ⊎_elim, arith}
use Rattle.std.specs.Str.{bytes_eq}
use Rattle.std.proofs.lemmas.Slice.Eq.{bytes_eq-Decides}
use Rattle.std.proofs.lemmas.Bool.{leb-true, and_parts}
use Rattle.faults.specs.declared.causes.ValueFault.{ValueFault}
use Rattle.faults.specs.declared.causes.ValueFault.TheVariants.{Count}
use Rattle.cuts.specs.Cuts.{bind, keyed}
use Rattle.fields.specs.declared.kinds.ValueKind.{ValueKind}
use Rattle.fields.specs.declared.kinds.ValueKind.TheVariants.{Notices, Pulses}
use Rattle.cuts.proofs.Decimal.{decode_back}
use Rattle.cuts.proofs.Fields.{bind_back, keyed_back}
use Rattle.headers.specs.Headers.{bench_reads, numbered, number_reads, count_reads, carriage_reads, kind_reads}
use Rattle.headers.specs.Lines.{line_of_carriage, line_of_kind}
use Rattle.fields.specs.Kinds.{kind_by, kind_word}
use Rattle.headers.specs.Carriages.{carriage_by, carriage_word}
use Rattle.headers.specs.declared.carriages.CarriageKind.{CarriageKind}
use Rattle.headers.specs.declared.carriages.CarriageKind.TheVariants.{Echo, Seal}

cond_some : {X : Type 0} (t : Bool) (x : X) (o : Option X) (y : X) → cond t (Some x) o ≡ Some y → ((t ≡ true) × (x ≡ y)) ⊎ (o ≡ Some y)
cond_some true x o y e = inl (refl, cc)
cond_some false x o y e = inr e

none_some : {X G : Type 0} (y : X) → None ≡ Some y → G
none_some y e = let z : ◌≡◌ {A = ℕ} 0 1 = cc in absurd (omega arith)

pub bench_back : (s : List ℕ) (u : Unit {0}) → bench_reads s ≡ Some (Ok u) → s ≡ codes "bench=1"
bench_back s u e = ⊎_elim (λ h. (bytes_eq-Decides s (codes "bench=1")).0 h.0) (none_some _) (cond_some (bytes_eq s (codes "bench=1")) (Ok tt) None _ e)

numbered_back : (key s : List ℕ) (n : ℕ) → numbered key s ≡ Some n → s ≡ key ++ 61 ∷ decimal n
numbered_back key s n e =
    let a = bind_back (keyed key s) _ _ e in
    keyed_back key s a.0 a.1 ∙ ap (λ y. key ++ 61 ∷ y) (decode_back a.0 n a.2).0

pub number_back : (key s : List ℕ) (n : ℕ) → number_reads key s ≡ Some (Ok n) → s ≡ key ++ 61 ∷ decimal n
number_back key s n e =
    let a = bind_back (numbered key s) _ _ e in
    let same : a.0 ≡ n = cc a.2 in
    numbered_back key s a.0 a.1 ∙ ap (λ m. key ++ 61 ∷ decimal m) same

pub count_back : (s : List ℕ) (n : ℕ) → count_reads s ≡ Some (Ok n) → (s ≡ codes "values=" ++ decimal n) × (1 ≤ n)
count_back s n e =
    let a = bind_back (numbered (codes "values") s) _ _ e in
    let f : cond (leb 1 a.0 && leb a.0 4) (Ok a.0) (Err Count) ≡ Ok n = cc a.2 in
    go a.0 (leb 1 a.0 && leb a.0 4) refl (numbered_back (codes "values") s a.0 a.1) f
  where
    go : (m : ℕ) (t : Bool) → (leb 1 m && leb m 4) ≡ t → s ≡ codes "values=" ++ decimal m → ◌≡◌ {A = Result ℕ ValueFault} (cond t (Ok m) (Err Count)) (Ok n) → (s ≡ codes "values=" ++ decimal n) × (1 ≤ n)
    go m true u h f = let same : m ≡ n = cc in (h ∙ ap (λ m. codes "values=" ++ decimal m) same, omega (arith, leb-true 1 m (and_parts _ _ u).0))
    go m false u h f = let z : ◌≡◌ {A = ℕ} 0 1 = cc in absurd (omega arith)

carriage_by_back : (w : List ℕ) (c : CarriageKind) → carriage_by w ≡ Some c → w ≡ carriage_word c
carriage_by_back w c e = ⊎_elim echo rest (cond_some (bytes_eq w (codes "echo")) Echo _ _ e)
  where
    echo : (bytes_eq w (codes "echo") ≡ true) × (Echo ≡ c) → w ≡ carriage_word c
    echo h = (bytes_eq-Decides w (codes "echo")).0 h.0 ∙ ap carriage_word h.1

    seal : (bytes_eq w (codes "seal") ≡ true) × (Seal ≡ c) → w ≡ carriage_word c
    seal h = (bytes_eq-Decides w (codes "seal")).0 h.0 ∙ ap carriage_word h.1

    rest : cond (bytes_eq w (codes "seal")) (Some Seal) None ≡ Some c → w ≡ carriage_word c
    rest h = ⊎_elim seal (none_some _) (cond_some (bytes_eq w (codes "seal")) Seal None _ h)

kind_by_back : (w : List ℕ) (k : ValueKind) → kind_by w ≡ Some k → w ≡ kind_word k
kind_by_back w k e = ⊎_elim notice rest (cond_some (bytes_eq w (codes "notice")) Notices _ _ e)
  where
    notice : (bytes_eq w (codes "notice") ≡ true) × (Notices ≡ k) → w ≡ kind_word k
    notice h = (bytes_eq-Decides w (codes "notice")).0 h.0 ∙ ap kind_word h.1

    pulse : (bytes_eq w (codes "pulse") ≡ true) × (Pulses ≡ k) → w ≡ kind_word k
    pulse h = (bytes_eq-Decides w (codes "pulse")).0 h.0 ∙ ap kind_word h.1

    rest : cond (bytes_eq w (codes "pulse")) (Some Pulses) None ≡ Some k → w ≡ kind_word k
    rest h = ⊎_elim pulse (none_some _) (cond_some (bytes_eq w (codes "pulse")) Pulses None _ h)

-- a key and a word that stands for something
worded_back : {X : Type 0} (key s : List ℕ) (by : List ℕ → Option X) (word : X → List ℕ) → ((w : List ℕ) (x : X) → by w ≡ Some x → w ≡ word x)
    → (x : X) → ◌≡◌ {A = Option (Result X ValueFault)} (bind (keyed key s) (λ w. bind (by w) (λ x. Some (Ok x)))) (Some (Ok x)) → s ≡ key ++ 61 ∷ word x
worded_back key s by word back x e =
    let a = bind_back (keyed key s) _ _ e in
    let b = bind_back (by a.0) _ _ a.2 in
    let same : b.0 ≡ x = cc b.2 in
    keyed_back key s a.0 a.1 ∙ ap (λ y. key ++ 61 ∷ y) (back a.0 b.0 b.1 ∙ ap word same)

pub carriage_back : (s : List ℕ) (c : CarriageKind) → carriage_reads s ≡ Some (Ok c) → s ≡ line_of_carriage c
carriage_back s c e = worded_back (codes "carriage") s carriage_by carriage_word carriage_by_back c e

pub kind_back : (s : List ℕ) (k : ValueKind) → kind_reads s ≡ Some (Ok k) → s ≡ line_of_kind k
kind_back s k e = worded_back (codes "kind") s kind_by kind_word kind_by_back k e
