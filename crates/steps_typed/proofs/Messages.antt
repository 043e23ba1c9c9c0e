-- The message of a call goes to an object whose class has the method, with arguments for it.
use Rattle.std.proofs.Common.{◌≡◌, ℕ, List, Some, None, Option}
use Rattle.tables.specs.Layout.{Content}
use Rattle.loading.specs.Laws.{Lawful}
use Rattle.syntax.specs.declared.statements.Call.{Call}
use Rattle.syntax.specs.Nodes.{parts}
use Rattle.typing.specs.declared.calls.Heading.{Heading}
use Rattle.typing.specs.declared.within.Within.{Within}
use Rattle.typing.specs.declared.within.Within.TheVariants as within
use Rattle.typing.specs.ExpressionLaws.{ArgumentsFit}
use Rattle.typing.specs.Scopes.{Bindings, method_scope}
use Rattle.typing.specs.StatementLaws.{Here}
use Rattle.typing.specs.Statements.{heading_parameters, reached}
use Rattle.evaluation.specs.Typed.{FunctionsTyped, Referents, Worths, Has, CellsTyped, SlotsTyped, Serves, IsObject}
use Rattle.evaluation.specs.Values.{Data}
use Rattle.evaluation.proofs.Meeting.{Ends, meets_then}
use Rattle.steps.specs.declared.records.CallRecord.{CallRecord}
use Rattle.steps.specs.Calling.{Message, message, message_on, message_to}
use Rattle.steps.specs.Configurations.{Configuration, call_environment}
use Rattle.steps.specs.Outcomes.{plan_ending}
use Rattle.steps.specs.Sound.{referents}
use Rattle.steps_typed.proofs.Endings.{PlanKeeps, plan_ends}
use Rattle.steps_typed.proofs.Reaching.{HasMethod, object_has_method, this_has_method}
use Rattle.steps_typed.proofs.Slots.{slots_typed}
use Rattle.steps_typed.proofs.Typings.{CallTyped, ConfigurationTyped}
use Rattle.std.specs.Prelude.{⊤}
use Rattle.tables.specs.declared.rows.ListRow.{ListRow}
use Rattle.syntax.specs.declared.types.ValueType.{ValueType}
use Rattle.typing.specs.Expressions.{type_in}
use Rattle.evaluation.specs.declared.value.Value.{Value}
use Rattle.evaluation.specs.declared.value.Value.TheVariants as value
use Rattle.evaluation.specs.Plans.{Environment, done}
use Rattle.evaluation.specs.Rules.{all_of}
use Rattle.evaluation.proofs.TypedRules.{arguments_kept}
use Rattle.evaluation.proofs.TypedTasks.{Later, later_same, later_worth, slots_later, typing}

module _ (m : Content) (refs : Referents) where
  -- A message goes to an object of which P holds, with values for parameters; at null there is none.
  abbrev pub MessageFits : (P : ℕ → Type 0) → List Data → List ListRow → Option Message → List Data → Type 0
  MessageFits P start xs None after = ⊤
  MessageFits P start xs (Some a) after = P a.object × Worths m refs xs start a.arguments after

module _ (m : Content) (refs : Referents) (this : ℕ) (w : Within) (serves : Serves m refs w this) (b : Bindings) where
  -- an expression of the statement has this type
  abbrev pub Expression : ℕ → ValueType → Type 0
  Expression n t = type_in m w n b ≡ Some t

  message_to_keeps : (P : ℕ → Type 0) {start cells : List Data} (s : Environment) (o : ℕ) (ns : List ℕ) (xs : List ListRow) → P o → ArgumentsFit m Expression ns xs →
      Later m refs start cells → SlotsTyped m refs w cells s b → PlanKeeps m refs this (MessageFits m refs P start xs) cells (message_to o ns s)
  message_to_keeps P {start} {cells} s o ns xs p typed later slots =
      meets_then (typing m refs this) (Worths m refs xs start) (MessageFits m refs P start xs) (all_of ns s)
      (λ vs. done (Some (record { object = o; arguments = vs }))) cells (arguments_kept m refs this w serves s b ns xs typed later slots)
      (λ vs after given. (p, given))

  message_on_keeps : (P : ℕ → Type 0) {start cells : List Data} (s : Environment) (ns : List ℕ) (xs : List ListRow) (t : ValueType) →
      ((o : ℕ) → IsObject m refs o t → P o) → ArgumentsFit m Expression ns xs → (v : Value) → Has m refs cells v t →
      Later m refs start cells → SlotsTyped m refs w cells s b → PlanKeeps m refs this (MessageFits m refs P start xs) cells (message_on ns s v)
  message_on_keeps P s ns xs t reach typed value.Unit has later slots = tt
  message_on_keeps P s ns xs t reach typed (value.Bool z) has later slots = tt
  message_on_keeps P s ns xs t reach typed (value.Int z) has later slots = tt
  message_on_keeps P s ns xs t reach typed value.Null has later slots = tt
  message_on_keeps P s ns xs t reach typed (value.Object o) has later slots = message_to_keeps P s o ns xs (reach o has) typed later slots
  message_on_keeps P s ns xs t reach typed (value.Future f) has later slots = tt
  message_on_keeps P s ns xs t reach typed (value.Constant k) has later slots = tt
  message_on_keeps P s ns xs t reach typed (value.Cell i) has later slots = tt

  -- a message to this
  pub message_this_keeps : (P : ℕ → Type 0) {cells : List Data} (s : Environment) (ns : List ℕ) (xs : List ListRow) → P this → ArgumentsFit m Expression ns xs →
      CellsTyped m refs cells → SlotsTyped m refs w cells s b → PlanKeeps m refs this (MessageFits m refs P cells xs) cells (message this None ns s)
  message_this_keeps P {cells} s ns xs p typed store slots = message_to_keeps P s this ns xs p typed (later_same m refs cells store) slots

  -- and one to an object that is evaluated
  pub message_object_keeps : (P : ℕ → Type 0) {cells : List Data} (s : Environment) (object : ℕ) (t : ValueType) (ns : List ℕ) (xs : List ListRow) →
      Expression object t → ((o : ℕ) → IsObject m refs o t → P o) → ArgumentsFit m Expression ns xs → CellsTyped m refs cells →
      SlotsTyped m refs w cells s b → PlanKeeps m refs this (MessageFits m refs P cells xs) cells (message this (Some object) ns s)
  message_object_keeps P {cells} s object t ns xs typed reach arguments store slots = (
    record { within = w; scope = b; type = t; serves = serves; slots = slots; store = store; typed = typed },
    λ v after worth.
        let more = later_worth m refs worth in
        message_on_keeps P s ns xs t reach arguments v worth.has more (slots_later m refs w more slots),
  )

-- the message of a call with a heading, over later cells
abbrev pub FitsCall : Content → Configuration → Call → Heading → Option Message → List Data → Type 0
FitsCall m c call hd = MessageFits m (referents m c) (HasMethod m (referents m c) call.name hd) c.cells (heading_parameters m hd)

module _ (m : Content) (laws : Lawful m) (c : Configuration) (h : ConfigurationTyped m c) (x : CallRecord) (functions : FunctionsTyped m)
    (t : CallTyped m (referents m c) c.cells x) (call : Call) (hd : Heading)
    (fit : ArgumentsFit m (Here m t.class t.method (method_scope m t.class t.method)) (parts call.arguments) (heading_parameters m hd)) where
  abbrev scope : Bindings
  scope = method_scope m t.class t.method

  abbrev class : Within
  class = within.Class t.class

  message_keeps : (object : Option ℕ) → reached m t.class scope object call.name ≡ Some hd →
      PlanKeeps m (referents m c) x.object (FitsCall m c call hd) c.cells
      (message x.object object (parts call.arguments) (call_environment c x))
  message_keeps None reach =
      message_this_keeps m (referents m c) x.object class t.of_class scope (HasMethod m (referents m c) call.name hd)
      (call_environment c x) (parts call.arguments) (heading_parameters m hd) (this_has_method m c x.object t.class scope call.name hd t.of_class reach)
      fit h.store (slots_typed m c h x t)
  message_keeps (Some object) reach =
      let p = object_has_method m c laws t.class scope object call.name hd reach in
      message_object_keeps m (referents m c) x.object class t.of_class scope (HasMethod m (referents m c) call.name hd)
      (call_environment c x) object p.0 (parts call.arguments) (heading_parameters m hd) p.1 p.2 fit h.store (slots_typed m c h x t)

  pub message_ends : reached m t.class scope call.object call.name ≡ Some hd →
      Ends (FitsCall m c call hd) (plan_ending m c x (message x.object call.object (parts call.arguments) (call_environment c x)))
  message_ends reach =
      plan_ends m (referents m c) x.object functions (FitsCall m c call hd)
      (message x.object call.object (parts call.arguments) (call_environment c x)) (record { left = 10000; cells = c.cells }) (message_keeps call.object reach)
