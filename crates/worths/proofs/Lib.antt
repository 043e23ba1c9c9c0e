mod TypedAnswers
