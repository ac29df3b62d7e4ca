-- That numbers tell refusals apart, a refusal or an answer case by case, and that no second result meets a contract.
pub mod Numbers
pub mod AnswerLaws
pub mod Determined
