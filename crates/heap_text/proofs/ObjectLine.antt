-- The line of an object, part by part.
use Rattle.std.proofs.Common.{◌≡◌, ℕ, List, ◌++◌, map, Option, Some, sym, ap, ◌∙◌, append_assoc}
use Rattle.std.specs.Prelude.{codes, decimal}
use Rattle.std.specs.Option.{option_map}
use Rattle.std.specs.List.{join_with_byte}
use Rattle.model.specs.Graph.{Graph, Object, object_at}
use Rattle.model.specs.Text.{number_of, pointer_text, object_line}
use Rattle.steps.specs.declared.step_id.StepId.{StepId}
use Rattle.heap.specs.StepPairs.{step_pair, stands_at}
use Rattle.heap.specs.Words.{target_of_word}
use Rattle.layout.specs.Object.{Raw}
use Rattle.heap_text.proofs.Shown.{Shows}

-- what a line begins with
abbrev pub line_head : (number generation step : ℕ) → List ℕ
line_head number generation step = codes "#" ++ (decimal number ++ (codes " gen " ++ (decimal generation ++ (codes " step " ++ (decimal step ++ codes " ptrs [")))))

-- where an object stands
pub record Stands (o : Object) (stands : StepId) : Type 0 where
  pub generation : stands.generation ≡ o.generation
  pub step : stands.step ≡ o.step

pub object_stands : (object : Option Object) (o : Object) (stands : Option StepId) (s : StepId) → object ≡ Some o → option_map step_pair stands ≡ option_map stands_at object → stands ≡ Some s → Stands o s
object_stands object o stands s is same some =
    let both : Some (step_pair s) ≡ Some (stands_at o) = sym (ap (option_map step_pair) some) ∙ same ∙ ap (option_map stands_at) is in
    record { generation = pairs both; step = pairs' both }
  where
    pairs : {a b : ℕ × ℕ} → Some a ≡ Some b → a.0 ≡ b.0
    pairs {a} {b} e = let f : a ≡ b = cc in ap (λ (p : ℕ × ℕ). p.0) f

    pairs' : {a b : ℕ × ℕ} → Some a ≡ Some b → a.1 ≡ b.1
    pairs' {a} {b} e = let f : a ≡ b = cc in ap (λ (p : ℕ × ℕ). p.1) f

regroup : (a b c d e f g h i j k : List ℕ) → (a ++ b) ++ c ++ d ++ e ++ f ++ g ++ h ++ i ++ j ++ k ≡ (a ++ (b ++ (c ++ (d ++ (e ++ (f ++ g)))))) ++ (h ++ (i ++ (j ++ k)))
regroup a b c d e f g h i j k = simp append_assoc

pub line_is : (graph : Graph) (order : List ℕ) (name : ℕ) (raw : Raw) (s : Shows graph name raw) (stands : StepId) → Stands s.object stands → (number : ℕ) → number ≡ number_of order name → object_line order name (object_at graph name) ≡ line_head number stands.generation stands.step ++ (join_with_byte 32 (map (pointer_text order) (map target_of_word raw.pointers)) ++ (codes "] words [" ++ (join_with_byte 32 (map decimal raw.plain) ++ codes "]\n")))
line_is graph order name raw s stands at number is =
    ap (object_line order name) s.there
    ∙ rw (at.generation, at.step, is, s.shown.pointers, s.shown.plain)
    (regroup (codes "#") (decimal (number_of order name)) (codes " gen ") (decimal s.object.generation) (codes " step ") (decimal s.object.step) (codes " ptrs [") (join_with_byte 32 (map (pointer_text order) s.object.pointers)) (codes "] words [") (join_with_byte 32 (map decimal s.object.plain)) (codes "]\n"))

pub line_written : (start t1 t2 t3 t4 t5 head pointers middle words last line : List ℕ) → t1 ≡ start ++ head → t2 ≡ t1 ++ pointers → t3 ≡ t2 ++ middle → t4 ≡ t3 ++ words → t5 ≡ t4 ++ last → line ≡ head ++ (pointers ++ (middle ++ (words ++ last))) → t5 ≡ start ++ line
line_written start t1 t2 t3 t4 t5 head pointers middle words last line e1 e2 e3 e4 e5 e =
    let all : t5 ≡ ((((start ++ head) ++ pointers) ++ middle) ++ words) ++ last = e5 ∙ ap (λ x. x ++ last) (e4 ∙ ap (λ x. x ++ words) (e3 ∙ ap (λ x. x ++ middle) (e2 ∙ ap (λ x. x ++ pointers) e1))) in
    let joined : ((((start ++ head) ++ pointers) ++ middle) ++ words) ++ last ≡ start ++ (head ++ (pointers ++ (middle ++ (words ++ last)))) = simp append_assoc in
    all ∙ joined ∙ ap (λ x. start ++ x) (sym e)
