-- What is left to do at the sites of a form, from those of its parts.
use Rattle.std.proofs.Common.{◌≡◌, ◌≢◌, refl, sym, ap, ◌∙◌, subst, ℕ, List, [], ◌∷◌, ◌++◌, append_assoc}
use Rattle.dp_base.specs.declared.SiteId.{SiteId}
use Rattle.dp_tree.specs.declared.Expr.{Expr}
use Rattle.dp_tree.specs.declared.Stmt.{Stmt}
use Rattle.dp_tree.specs.declared.Stmt.TheVariants.{Assign, Store, Print, If', While', Region', Break, Call}
use Rattle.dp_tree.specs.declared.Stmt.TheVariants as stmt
use Rattle.dp_meaning.specs.Places.{rests, site_number}
unfoldable use Rattle.dp_meaning.specs.Places.{rests_of, rests_in}
use Rattle.dp_forms.specs.Codes.{Among, here, later, IsLeft}
use Rattle.dp_tree.specs.declared.Stmt.TheBlock.{hidden-the_row-Stmt-0}
unfoldable use Rattle.dp_forms.proofs.StepLemmas.{statement_opened}
use Rattle.dp_forms.proofs.StepLemmas.{listed_hidden}

rests_hidden : (xs behind : List Stmt) → rests_in (hidden-the_row-Stmt-0 xs) behind ≡ rests xs behind
unfolding statement_opened rests_in
rests_hidden [] behind = refl
rests_hidden (x ∷ xs) behind = ap (λ (ys : List Stmt). rests_of x (ys ++ behind) ++ rests_in (hidden-the_row-Stmt-0 xs) behind) (listed_hidden xs)
    ∙ ap (λ (l : List (List Stmt)). rests_of x (xs ++ behind) ++ l) (rests_hidden xs behind)

pub rests_while : (site : SiteId) (c : Expr) (a behind : List Stmt) → rests (stmt.While site c a ∷ []) behind ≡ (stmt.While site c a ∷ behind)
    ∷ (rests a (stmt.While site c a ∷ behind) ++ [])
unfolding statement_opened rests_of
rests_while site c a behind = ap (λ (l : List (List Stmt)). (stmt.While site c a ∷ behind) ∷ (l ++ [])) (rests_hidden a (stmt.While site c a ∷ behind))

pub rests_if : (site : SiteId) (c : Expr) (a b behind : List Stmt) → rests (stmt.If site c a b ∷ []) behind ≡ (stmt.If site c a b ∷ behind)
    ∷ ((rests a behind ++ rests b behind) ++ [])
unfolding statement_opened rests_of
rests_if site c a b behind =
    ap (λ (l : List (List Stmt)). (stmt.If site c a b ∷ behind) ∷ ((l ++ rests_in (hidden-the_row-Stmt-0 b) behind) ++ [])) (rests_hidden a behind)
    ∙ ap (λ (l : List (List Stmt)). (stmt.If site c a b ∷ behind) ∷ ((rests a behind ++ l) ++ [])) (rests_hidden b behind)

pub rests_joined : (front back behind : List Stmt) → rests (front ++ back) behind ≡ rests front (back ++ behind) ++ rests back behind
rests_joined [] back behind = refl
rests_joined (s ∷ front) back behind =
    ap (λ (ys : List Stmt). rests_of s ys ++ rests (front ++ back) behind) (append_assoc front back behind)
    ∙ ap (λ (l : List (List Stmt)). rests_of s (front ++ (back ++ behind)) ++ l) (rests_joined front back behind)
    ∙ sym (append_assoc (rests_of s (front ++ (back ++ behind))) (rests front (back ++ behind)) (rests back behind))

pub among_left : {x : List Stmt} {xs : List (List Stmt)} (ys : List (List Stmt)) → Among x xs → Among x (xs ++ ys)
among_left ys here = here
among_left ys (later a) = later (among_left ys a)

pub among_right : {x : List Stmt} (xs : List (List Stmt)) {ys : List (List Stmt)} → Among x ys → Among x (xs ++ ys)
among_right [] a = a
among_right (y ∷ xs) a = later (among_right xs a)

among_to : {x : List Stmt} {xs ys : List (List Stmt)} → xs ≡ ys → Among x ys → Among x xs
among_to {x} e a = subst (λ (l : List (List Stmt)). Among x l) (sym e) a

-- the statement itself is left
pub at_own : (s : Stmt) (behind : List Stmt) → site_number s ≢ 0 → Among (s ∷ behind) (rests (s ∷ []) behind)
unfolding rests_of
at_own (Assign site x e) behind some = here
at_own (Store site x index e) behind some = here
at_own (Print site e) behind some = here
at_own (If' site cond i a j b) behind some = here
at_own (While' site cond i a) behind some = here
at_own (Region' r site cond i a) behind some = here
at_own (Break site cond) behind some = here
at_own (Call f line args) behind some = absurd (some refl)

pub left_in_front : (front back : List Stmt) {behind to_do : List Stmt} {site : ℕ} → IsLeft front (back ++ behind) site to_do →
    IsLeft (front ++ back) behind site to_do
left_in_front front back {behind} left =
    record { among = among_to (rests_joined front back behind) (among_left (rests back behind) left.among); site_is = left.site_is }

pub left_in_back : (front back : List Stmt) {behind to_do : List Stmt} {site : ℕ} → IsLeft back behind site to_do → IsLeft (front ++ back) behind site to_do
left_in_back front back {behind} left =
    record { among = among_to (rests_joined front back behind) (among_right (rests front (back ++ behind)) left.among); site_is = left.site_is }

module _ (own : SiteId) (c : Expr) where
  pub left_in_body : {a behind to_do : List Stmt} {site : ℕ} → IsLeft a (stmt.While own c a ∷ behind) site to_do →
      IsLeft (stmt.While own c a ∷ []) behind site to_do
  left_in_body {a} {behind} left = record { among = among_to (rests_while own c a behind) (later (among_left [] left.among)); site_is = left.site_is }

  pub left_in_then : (a b : List Stmt) {behind to_do : List Stmt} {site : ℕ} → IsLeft a behind site to_do → IsLeft (stmt.If own c a b ∷ []) behind site to_do
  left_in_then a b {behind} left =
      record { among = among_to (rests_if own c a b behind) (later (among_left [] (among_left (rests b behind) left.among))); site_is = left.site_is }

  pub left_in_else : (a b : List Stmt) {behind to_do : List Stmt} {site : ℕ} → IsLeft b behind site to_do → IsLeft (stmt.If own c a b ∷ []) behind site to_do
  left_in_else a b {behind} left =
      record { among = among_to (rests_if own c a b behind) (later (among_left [] (among_right (rests a behind) left.among))); site_is = left.site_is }

-- the statement is left as it stands
pub left_own : (s : Stmt) (behind : List Stmt) (site : ℕ) → site_number s ≡ site → site ≢ 0 → IsLeft (s ∷ []) behind site (s ∷ behind)
left_own s behind site e some = record { among = at_own s behind (λ (z : site_number s ≡ 0). some (sym e ∙ z)); site_is = e }
