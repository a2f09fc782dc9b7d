-- Laws of writing on the code's page: nothing, text after text, and the digits of a number. Assumes nothing.
use Rattle.std.proofs.Common.{◌≡◌, refl, sym, ap, ◌∙◌, subst, List, [], ◌∷◌, ◌++◌, ℕ, ◌+◌, ◌<◌, length, take, get_or}
use Rattle.std.proofs.lemmas.List.{take_more}
use Rattle.text.specs.Page.{puts}
use Rattle.text.specs.Written.{cells_of, Writes}
use Rattle.text.specs.declared.Page.{Page}
use Rattle.text.proofs.PageLaws.{puts_append}

pub nothing : (p : Page) → Writes p [] p
unfolding puts
nothing p = record { same = refl; is = refl }

-- a page by another name, as where two branches join
pub moved : {p q r : Page} {xs : List ℕ} → r ≡ q → Writes p xs q → Writes p xs r
moved {p} {xs = xs} e w = subst (λ (x : Page). Writes p xs x) (sym e) w

pub stays : {p q : Page} → q ≡ p → Writes p [] q
stays {p} e = moved e (nothing p)

-- two texts, one after the other
infixr 40 ◌then◌
pub ◌then◌ : {p q r : Page} {xs ys : List ℕ} → Writes p xs q → Writes q ys r → Writes p (xs ++ ys) r
◌then◌ {p} {xs = xs} {ys} e f = record {
  same = f.same ∙ e.same;
  is = f.is ∙ ap (λ x. puts x ys) e.is ∙ sym (puts_append (cells_of p) xs ys);
}

-- another text that is the same
pub as_text : {p q : Page} {xs ys : List ℕ} → Writes p xs q → xs ≡ ys → Writes p ys q
as_text {p} e h = record { same = e.same; is = e.is ∙ ap (puts (cells_of p)) h }

-- two texts that make up a third
pub writes_both : {p q r : Page} {xs ys zs : List ℕ} → Writes p xs q → Writes q ys r → xs ++ ys ≡ zs → Writes p zs r
writes_both e f h = as_text (e then f) h

-- one byte behind the first i
pub writes_more : {p q r : Page} (l : List ℕ) (i : ℕ) → i < length l → Writes p (take i l) q → Writes q (get_or l i 0 ∷ []) r → Writes p (take (i + 1) l) r
writes_more l i h e f = writes_both e f (sym (take_more l i 0 h))

-- ---- on the way from p to the text bs: behind q the text `rest` is left to be written

pub record Leaves (p : Page) (bs : List ℕ) (q : Page) (rest : List ℕ) : Type 0 where
  pub same : q.bytes.ghost_name ≡ p.bytes.ghost_name
  pub ends : puts (cells_of q) rest ≡ puts (cells_of p) bs

pub begins : (p : Page) (bs : List ℕ) → Leaves p bs p bs
begins p bs = record { same = refl; ends = refl }

-- the front of what is left is written
pub leaves_less : {p q r : Page} {bs rest xs ys : List ℕ} → Leaves p bs q rest → rest ≡ xs ++ ys → Writes q xs r → Leaves p bs r ys
leaves_less {q = q} {xs = xs} {ys} l e w = record {
  same = w.same ∙ l.same;
  ends = ap (λ x. puts x ys) w.is ∙ sym (puts_append (cells_of q) xs ys) ∙ ap (puts (cells_of q)) (sym e) ∙ l.ends;
}

-- nothing is left
pub leaves_none : {p q : Page} {bs rest : List ℕ} → Leaves p bs q rest → rest ≡ [] → Writes p bs q
unfolding puts
leaves_none {q = q} l e = record { same = l.same; is = ap (puts (cells_of q)) (sym e) ∙ l.ends }

-- all that is left is written
pub leaves_last : {p q r : Page} {bs rest xs : List ℕ} → Leaves p bs q rest → rest ≡ xs → Writes q xs r → Writes p bs r
leaves_last {q = q} l e w = record { same = w.same ∙ l.same; is = w.is ∙ ap (puts (cells_of q)) (sym e) ∙ l.ends }
