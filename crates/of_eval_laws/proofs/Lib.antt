-- WalkWords, Walk, WalkTyped, WalkFree: one walk of the tables of words, items and tokens, for what a law asks of an
-- act, and the rules that ask nothing. Each law below that asks something has rules of its own, and a row for each act.
-- WalkTexts: the walk of the table of texts. TextFaults, TextBytes, TextsKept: what the words of a text throw by what
-- they parse, that their strings are of bytes, and that texts stay so.
-- Squares, SquareEnds, Square: the law `steps_agree`, from what a part leaves up to a step.
-- Placed, PlacedEnds, PlacedRules, PlacedActs, PlacedTexts, PlacedSteps: the law `states_stay_placed`, from what stays
-- placed up to a step.
-- ListedLemmas: the law `words_throw_listed`.
-- ListedFaults, ListedWords, Raised: the law `steps_throw_listed`, from one fault of several up to a step.
-- Mismatch: the law `mismatch_is_no_body`.
-- Frames, FramedTurns, FramedReading, FramedStack: the law `frames_hold`.
-- Bytes: which lists are bytes.
-- FramedSpace, FramedMemory, FramedWriting: the law `images_stand`, and what else ordinary words keep.
-- DefinedSpace: what words that define, and stores into slots, leave of the data space.
-- ThrowsSettle: the law `throws_settle`.
-- Released, Begun: what releasing instances and an image that begins leave of the data space.
-- LeadingEnds, LeadingBack, LeadingActs, LeadingSteps: the law `stack_leads_back`, from what is worked off or caught
-- and the end of an image up to a step.
-- RunningBytes, RunningEnds, RunningWords, RunningTokens: what becomes of the images that run and of the data space,
-- from bytes up to what comes next. SoundSteps: the law `space_stays_sound`. ImagesRun: the law `images_run`.
-- ReadingsEnds, ReadingsActs, ImagesReadings: the law `images_are_readings`, from the end of a step up to steps.
-- Callees, CallingLemmas: for which instance a method runs, and the law `calls_come_back`.
-- GoingLemmas: the laws `items_go`, `definitions_run`, `catch_keeps`, `ends_go_back`, `loads_begin`.
-- TokenLemmas: the laws `tokens_are_typed`, `tokens_go` and `throw_takes`.
-- AskingLemmas: the law `memory_is_asked`.
-- HomeLemmas: the law `names_stay_home`.
-- AnsweredActs, QuietActs, QuestionLemmas: the law `questions_settle`.
-- MethodLemmas: words that become methods leave what runs and the code.
pub mod MethodLemmas
pub mod AskingLemmas
pub mod HomeLemmas
pub mod ListedLemmas
pub mod ListedFaults
pub mod ListedWords
pub mod Callees
pub mod WalkWords
pub mod Walk
pub mod WalkTyped
pub mod WalkFree
pub mod TextFaults
pub mod WalkTexts
pub mod Raised
pub mod Squares
pub mod SquareEnds
pub mod Square
pub mod Placed
pub mod PlacedEnds
pub mod PlacedRules
pub mod PlacedActs
pub mod PlacedTexts
pub mod PlacedSteps
pub mod Mismatch
pub mod GoingLemmas
pub mod CallingLemmas
pub mod TokenLemmas
pub mod AnsweredActs
pub mod QuietActs
pub mod QuestionLemmas
pub mod FramedTurns
pub mod FramedReading
pub mod FramedStack
pub mod Bytes
pub mod TextBytes
pub mod FramedSpace
pub mod FramedMemory
pub mod DefinedSpace
pub mod FramedWriting
pub mod Frames
pub mod ThrowsSettle
pub mod LeadingEnds
pub mod LeadingBack
pub mod LeadingActs
pub mod LeadingSteps
pub mod Released
pub mod RunningBytes
pub mod Begun
pub mod TextsKept
pub mod RunningEnds
pub mod RunningWords
pub mod RunningTokens
pub mod SoundSteps
pub mod ImagesRun
pub mod ReadingsEnds
pub mod ReadingsActs
pub mod ImagesReadings
